-- The lower end of the least difference of two rankings on a topic.
use Rattle.std.specs.Prelude.{◌≡◌, ℕ, ◌≤◌, List, ℤ}
use Rattle.desk_model.specs.Extremes.{InEvery, IsGreatest}
use Rattle.desk_model.specs.Fraction.{IsAtMost}
use Rattle.desk_model.specs.Limits.{DOCUMENT_LIMIT}
use Rattle.desk_model.specs.Ranking.{IsRanking}
use Rattle.desk_model.specs.declared.types.Mark.{Mark}
use Rattle.desk_model.specs.declared.types.MeasureName.{MeasureName}
use Rattle.measure_laws.specs.AverageEnds.{average_least_lo}
use Rattle.measure_laws.specs.Measures.{Family, Counted, Shared, Separate, family_of, unit_of}
use Rattle.measure_laws.specs.Shares.{biased_least_lo}

-- two rankings of the documents of a topic
pub record AreRankings (universe : ℕ) (a b : List ℕ) : Type 0 where
  pub first : IsRanking universe a
  pub second : IsRanking universe b
  pub small : universe ≤ DOCUMENT_LIMIT

-- the lower end of the least difference, by the family of the measure: the greatest whole number of units that is at most the difference in
-- every completion; a sum of lower shares; or a's lower bound less b's upper one
abbrev pub IsLeastLowBy : Family → MeasureName → List Mark → List ℕ → List ℕ → ℤ → Type 0
IsLeastLowBy Counted measure marks a b z = IsGreatest (λ w. InEvery measure marks a b (IsAtMost w (unit_of measure))) z
IsLeastLowBy (Shared top bottom) measure marks a b z = z ≡ biased_least_lo top bottom marks a b
IsLeastLowBy Separate measure marks a b z = z ≡ average_least_lo marks a b

abbrev pub IsLeastLow : MeasureName → List Mark → List ℕ → List ℕ → ℤ → Type 0
IsLeastLow measure marks a b z = IsLeastLowBy (family_of measure) measure marks a b z
