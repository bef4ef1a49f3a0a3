-- The weight of a document in a pair: how much it tells of the difference of the two runs.
use Rattle.std.specs.Prelude.{ℕ, ◌/◌, max, ◌||◌, if◌then◌else◌, List, Option, Some, None}
use Rattle.std.specs.Int.{abs_diff}
use Rattle.desk_model.specs.Limits.{PARTS_OF_ONE}
use Rattle.desk_model.specs.Ranking.{rank}
use Rattle.desk_model.specs.declared.types.Mark.{Mark}
use Rattle.desk_model.specs.declared.types.MeasureName.{MeasureName}
use Rattle.desk_model.specs.declared.types.MeasureName.TheVariants.{Precision, Recall, RPrecision, Reciprocal, Biased, AveragePrecision}
use Rattle.measure_laws.specs.Prefixes.{only_second}
use Rattle.measure_laws.specs.Classes.{judged_count}
use Rattle.measure_laws.specs.Powers.{low_weight}

-- one for a document that is among the first k of exactly one ranking
abbrev pub one_side_weight : ℕ → List ℕ → List ℕ → ℕ → ℕ
one_side_weight k a b doc = if only_second k a b doc || only_second k b a doc then 1 else 0

-- 10^18 over a rank, rounded down; an absent rank has none
abbrev pub reciprocal_weight : Option ℕ → ℕ
reciprocal_weight None = 0
reciprocal_weight (Some rank) = PARTS_OF_ONE / rank

-- the weight of a document, by measure
abbrev pub weight_of : MeasureName → List Mark → List ℕ → List ℕ → ℕ → ℕ
weight_of (Precision k) marks a b doc = one_side_weight k a b doc
weight_of (Recall k) marks a b doc = one_side_weight k a b doc
weight_of RPrecision marks a b doc = one_side_weight (max 1 (judged_count marks)) a b doc
weight_of Reciprocal marks a b doc = abs_diff (reciprocal_weight (rank a doc)) (reciprocal_weight (rank b doc))
weight_of (Biased top bottom) marks a b doc = abs_diff (low_weight top bottom (rank a doc)) (low_weight top bottom (rank b doc))
weight_of AveragePrecision marks a b doc = abs_diff (reciprocal_weight (rank a doc)) (reciprocal_weight (rank b doc))
