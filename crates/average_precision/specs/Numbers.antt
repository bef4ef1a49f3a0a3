-- What the cell and the bounds of average precision are, from the chosen candidates of each run.
use Rattle.std.specs.Prelude.{ℕ, List, pos}
use Rattle.desk_model.specs.declared.types.Mark.{Mark}
use Rattle.measure_laws.specs.AverageEnds.{average_least_lo, average_least_hi}
use Rattle.measure_laws.specs.Candidates.{average_bound_lo, average_bound_hi}
use Rattle.topic_counts.specs.declared.span.Span.{Span}
use Rattle.topic_counts.specs.Numbers.{negated}
use Rattle.measure_core.specs.declared.cell.Cell.{Cell}

-- the ends of the least difference
abbrev pub average_least : List Mark → List ℕ → List ℕ → Span
average_least marks a b = record { lo = average_least_lo marks a b; hi = average_least_hi marks a b }

-- the greatest difference is the least one of the swapped runs, negated
unfoldable pub average_cell : List Mark → List ℕ → List ℕ → Cell
average_cell marks a b = record { least = average_least marks a b; most = negated (average_least marks b a) }

unfoldable pub average_bounds : List Mark → List ℕ → Span
average_bounds marks a = record { lo = pos (average_bound_lo marks a); hi = pos (average_bound_hi marks a) }
