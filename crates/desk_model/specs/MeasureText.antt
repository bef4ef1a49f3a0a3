-- The texts of measures.
use Rattle.std.specs.Prelude.{◌≡◌, ◌≢◌, ℕ, ◌+◌, ◌^◌, ◌%◌, ◌<◌, ◌≤◌, List, ◌++◌, drop, replicate, length, codes, decimal}
use Rattle.desk_model.specs.Limits.{DEPTH_LIMIT}
use Rattle.desk_model.specs.declared.types.MeasureName.{MeasureName}
use Rattle.desk_model.specs.declared.types.MeasureName.TheVariants.{Precision, Recall, RPrecision, Reciprocal, Biased, AveragePrecision}

-- the decimals of a persistence, whose bottom is a power of ten
abbrev pub persistence_digits : ℕ → ℕ → List ℕ
persistence_digits top bottom = drop 1 (decimal (bottom + top))

-- how a measure is printed; a persistence is printed without zeros at its end
abbrev pub measure_text : MeasureName → List ℕ
measure_text (Precision k) = codes "P_" ++ decimal k
measure_text (Recall k) = codes "recall_" ++ decimal k
measure_text RPrecision = codes "Rprec"
measure_text Reciprocal = codes "recip_rank"
measure_text (Biased top bottom) = codes "rbp_0." ++ persistence_digits top bottom
measure_text AveragePrecision = codes "map"

-- k is from 1 to 10,000
abbrev pub IsDepth : ℕ → Type 0
IsDepth k = (1 ≤ k) × (k ≤ DEPTH_LIMIT)

-- a persistence between 0 and 1 of 1 to 6 decimals, the last of which is not 0
pub record IsPersistence (top bottom : ℕ) : Type 0 where
  pub decimals : ℕ
  pub some : 1 ≤ decimals
  pub few : decimals ≤ 6
  pub power : bottom ≡ 10 ^ decimals
  pub positive : 0 < top
  pub below_one : top < bottom
  pub shortest : top % 10 ≢ 0

-- a measure that has a text
abbrev pub IsMeasure : MeasureName → Type 0
IsMeasure (Precision k) = IsDepth k
IsMeasure (Recall k) = IsDepth k
IsMeasure RPrecision = Unit {0}
IsMeasure Reciprocal = Unit {0}
IsMeasure (Biased top bottom) = IsPersistence top bottom
IsMeasure AveragePrecision = Unit {0}

-- a text of a measure: as it is printed, and for a persistence also with zeros after it, up to 6 decimals
abbrev pub IsTextOf : MeasureName → List ℕ → Type 0
IsTextOf (Biased top bottom) text =
    (zeros : ℕ) × (text ≡ measure_text (Biased top bottom) ++ replicate zeros 48) × (length (persistence_digits top bottom) + zeros ≤ 6)
IsTextOf measure text = text ≡ measure_text measure
