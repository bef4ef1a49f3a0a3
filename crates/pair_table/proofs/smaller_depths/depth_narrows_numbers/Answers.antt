use Rattle.std.proofs.Common.{◌≤ℤ◌}
use Rattle.desk_model.specs.declared.types.Totals.{Totals}
use Rattle.topic_counts.specs.declared.span.Span.{Span}
use Rattle.pair_table.proofs.Refining.{least_rises_in_sums, most_falls_in_sums, low_rises, high_falls}
use Rattle.pair_table.proofs.Narrowing.{pairs_within, runs_within}
use Rattle.pair_table.proofs.smaller_depths.depth_narrows_numbers.Goals as goal

pub returns-clause-least : goal.returns-clause-least
returns-clause-least c = pairs_within (λ (deep under : Totals). deep.least_lo ≤ℤ under.least_lo) least_rises_in_sums

pub returns-clause-most : goal.returns-clause-most
returns-clause-most c = pairs_within (λ (deep under : Totals). under.most_hi ≤ℤ deep.most_hi) most_falls_in_sums

pub returns-clause-low : goal.returns-clause-low
returns-clause-low c = runs_within (λ (deep under : Span). deep.lo ≤ℤ under.lo) low_rises

pub returns-clause-high : goal.returns-clause-high
returns-clause-high c = runs_within (λ (deep under : Span). under.hi ≤ℤ deep.hi) high_falls
