-- What the cell and the bounds of rank-biased precision are: sums of shares and of weights.
use Rattle.std.specs.Prelude.{ℕ, true, false, List, pos}
use Rattle.measure_laws.specs.Shares.{biased_least_lo, biased_least_hi, biased_bound_lo, biased_bound_hi, low_worth, high_worth}
use Rattle.desk_model.specs.declared.types.Mark.{Mark}
use Rattle.topic_counts.specs.declared.span.Span.{Span}
use Rattle.topic_counts.specs.Numbers.{negated}
use Rattle.measure_core.specs.declared.cell.Cell.{Cell}
use Rattle.measure_core.specs.declared.room.RunWeights.{RunWeights}

-- the ends of the least difference
abbrev pub biased_least : ℕ → ℕ → List Mark → List ℕ → List ℕ → Span
biased_least top bottom marks a b = record { lo = biased_least_lo top bottom marks a b; hi = biased_least_hi top bottom marks a b }

-- the greatest difference is the least one of the swapped runs, negated
unfoldable pub biased_cell : ℕ → ℕ → List Mark → List ℕ → List ℕ → Cell
biased_cell top bottom marks a b = record { least = biased_least top bottom marks a b; most = negated (biased_least top bottom marks b a) }

unfoldable pub biased_bounds : ℕ → ℕ → List Mark → List ℕ → Span
biased_bounds top bottom marks a = record { lo = pos (biased_bound_lo top bottom marks a); hi = pos (biased_bound_hi top bottom marks a) }

-- the sums of the weights of a run's documents
abbrev pub run_weights : ℕ → ℕ → List Mark → List ℕ → RunWeights
run_weights top bottom marks docs = record {
  relevant_low = low_worth top bottom false marks docs;
  relevant_high = high_worth top bottom false marks docs;
  possible_low = low_worth top bottom true marks docs;
  possible_high = high_worth top bottom true marks docs;
}
