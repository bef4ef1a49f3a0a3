-- What the numbers of a measure are, by its name, and the units of all.
use Rattle.std.specs.Prelude.{ℕ}
use Rattle.desk_model.specs.Limits.{PARTS_OF_ONE}
use Rattle.desk_model.specs.declared.types.MeasureName.{MeasureName}
use Rattle.desk_model.specs.declared.types.MeasureName.TheVariants.{Precision, Recall, RPrecision, Reciprocal, Biased, AveragePrecision}

-- what ends and bounds are made of
pub data Family : Type 0 where
  -- counts of documents: the extremes, rounded outward
  Counted : Family
  -- what each rank is worth by a persistence: sums of lower and upper shares
  Shared : (top bottom : ℕ) → Family
  -- the bounds of each run by itself
  Separate : Family

abbrev pub family_of : MeasureName → Family
family_of (Precision k) = Counted
family_of (Recall k) = Counted
family_of RPrecision = Counted
family_of Reciprocal = Counted
family_of (Biased top bottom) = Shared top bottom
family_of AveragePrecision = Separate

abbrev pub IsCounted : Family → Type 0
IsCounted Counted = Unit {0}
IsCounted (Shared top bottom) = ⊥
IsCounted Separate = ⊥

-- a measure whose ends are the floors and ceilings of its extremes
abbrev pub IsExactMeasure : MeasureName → Type 0
IsExactMeasure measure = IsCounted (family_of measure)

-- how many units make a score of 1
abbrev pub unit_of : MeasureName → ℕ
unit_of (Precision k) = k
unit_of (Recall k) = PARTS_OF_ONE
unit_of RPrecision = PARTS_OF_ONE
unit_of Reciprocal = PARTS_OF_ONE
unit_of (Biased top bottom) = PARTS_OF_ONE
unit_of AveragePrecision = PARTS_OF_ONE
