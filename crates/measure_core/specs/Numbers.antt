-- The numbers of a measure whose ends are those of its extremes: floors and ceilings of the difference of its least case.
use Rattle.std.specs.Prelude.{ℕ, List, [], length, neg_ℤ}
use Rattle.desk_model.specs.Score.{score}
use Rattle.desk_model.specs.declared.types.Mark.{Mark}
use Rattle.desk_model.specs.declared.types.MeasureName.{MeasureName}
use Rattle.measure_laws.specs.Measures.{unit_of}
use Rattle.measure_laws.specs.Cases.{least_truth}
use Rattle.topic_counts.specs.declared.span.Span.{Span}
use Rattle.topic_counts.specs.Numbers.{difference_span, negated}
use Rattle.measure_core.specs.declared.cell.Cell.{Cell}

-- the floor and the ceiling of unit times the difference of the least case
unfoldable pub exact_least : MeasureName → List Mark → List ℕ → List ℕ → Span
exact_least m marks a b =
    let truth = least_truth m marks a b in
    difference_span (unit_of m) (score m (length marks) truth a []) (score m (length marks) truth b [])

-- the greatest difference is the least one of the swapped runs, negated
abbrev pub exact_cell : MeasureName → List Mark → List ℕ → List ℕ → Cell
exact_cell m marks a b = record { least = exact_least m marks a b; most = negated (exact_least m marks b a) }

-- a run against an empty one, whose score is 0
abbrev pub exact_bounds : MeasureName → List Mark → List ℕ → Span
exact_bounds m marks a = record { lo = (exact_least m marks a []).lo; hi = neg_ℤ (exact_least m marks [] a).lo }
