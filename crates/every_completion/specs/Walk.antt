-- What the walk through every completion says.
use Rattle.std.specs.Coded.{×_prop, Unit-prop, le_prop}
use Rattle.std.specs.Prelude.{◌≤◌}
use Rattle.std.specs.Int.{int_min, int_max}
use Rattle.desk_model.specs.Limits.{DEPTH_LIMIT}
use Rattle.desk_model.specs.Fraction as model
use Rattle.desk_model.specs.Extremes as extremes
use Rattle.desk_model.specs.declared.types.MeasureName.{MeasureName}
use Rattle.desk_model.specs.declared.types.MeasureName.TheVariants.{Precision, Recall, RPrecision, Reciprocal, Biased, AveragePrecision}
use Rattle.every_completion.specs.declared.fraction.ScoreFraction.{ScoreFraction}
use Rattle.every_completion.specs.declared.ends.ExtremeEnds.{ExtremeEnds}

-- a measure that looks at no place past a run's end, with a k from 1 to 10,000 where it has one
abbrev pub LooksAtNoTail : MeasureName → Type 0
LooksAtNoTail (Precision k) = (1 ≤ k) × (k ≤ DEPTH_LIMIT)
LooksAtNoTail (Recall k) = (1 ≤ k) × (k ≤ DEPTH_LIMIT)
LooksAtNoTail RPrecision = Unit {0}
LooksAtNoTail Reciprocal = Unit {0}
LooksAtNoTail (Biased top bottom) = ⊥
LooksAtNoTail AveragePrecision = ⊥

-- that it looks at none is one fact
pub LooksAtNoTail-prop : (measure : MeasureName) → IsProp (LooksAtNoTail measure)
LooksAtNoTail-prop (Precision k) = ×_prop le_prop le_prop
LooksAtNoTail-prop (Recall k) = ×_prop le_prop le_prop
LooksAtNoTail-prop RPrecision = Unit-prop
LooksAtNoTail-prop Reciprocal = Unit-prop
LooksAtNoTail-prop (Biased top bottom) = λ x y. absurd x
LooksAtNoTail-prop AveragePrecision = λ x y. absurd x

-- a computed fraction as the fraction that it is
abbrev pub value_of : ScoreFraction → model.Fraction
value_of x = record { num = x.num; den = x.den }

-- computed ends as whole numbers
abbrev pub ends_of : ExtremeEnds → extremes.Ends
ends_of ends = record { least_lo = ends.least_lo; least_hi = ends.least_hi; most_lo = ends.most_lo; most_hi = ends.most_hi }

-- the ends over the completions of two topics
abbrev pub joined : extremes.Ends → extremes.Ends → extremes.Ends
joined x y = record {
  least_lo = int_min x.least_lo y.least_lo;
  least_hi = int_min x.least_hi y.least_hi;
  most_lo = int_max x.most_lo y.most_lo;
  most_hi = int_max x.most_hi y.most_hi;
}
