-- What a measure's ends are computed from.
use Rattle.desk_model.specs.MeasureText.{IsDepth}
use Rattle.desk_model.specs.declared.types.MeasureName.{MeasureName}
use Rattle.desk_model.specs.declared.types.MeasureName.TheVariants as name
use Rattle.topic_ends.specs.RankPowers.{ArePowers}
use Rattle.topic_ends.specs.declared.kind.Kind.{Kind}
use Rattle.topic_ends.specs.declared.kind.Kind.TheVariants.{Precision, Recall, RPrecision, Reciprocal, Biased, AveragePrecision}

-- the name of the measure
abbrev pub name_of : Kind → MeasureName
name_of (Precision k) = name.Precision k
name_of (Recall k) = name.Recall k
name_of RPrecision = name.RPrecision
name_of Reciprocal = name.Reciprocal
name_of (Biased powers) = name.Biased powers.top powers.bottom
name_of AveragePrecision = name.AveragePrecision

-- the numbers are those of a measure that has a text
abbrev pub IsKind : Kind → Type 0
IsKind (Precision k) = IsDepth k
IsKind (Recall k) = IsDepth k
IsKind RPrecision = Unit {0}
IsKind Reciprocal = Unit {0}
IsKind (Biased powers) = ArePowers powers
IsKind AveragePrecision = Unit {0}
