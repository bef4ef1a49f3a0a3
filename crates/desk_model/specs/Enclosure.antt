-- Whole numbers, one for each topic, that enclose unit times a difference or a score in every completion.
use Rattle.std.specs.Prelude.{◌≡◌, ℕ, List, All, ℤ}
use Rattle.std.specs.List.{AllZip}
use Rattle.desk_model.specs.Fraction.{IsAtMost, IsAtLeast}
use Rattle.desk_model.specs.Order.{Topic}
use Rattle.desk_model.specs.Extremes.{InEvery, InEveryScore, IsAtMostScore, IsAtLeastScore, Ends, AreExtremes}
use Rattle.desk_model.specs.declared.types.MeasureName.{MeasureName}

-- each number is at most unit times a's score minus b's on its topic
abbrev pub AreLowEnds : MeasureName → ℕ → List Topic → ℕ → ℕ → List ℤ → Type 0
AreLowEnds measure unit topics a b lows =
    AllZip (λ z topic. InEvery measure topic.marks (topic.ranking a) (topic.ranking b) (IsAtMost z unit)) lows topics

-- each number is at least unit times a's score minus b's on its topic
abbrev pub AreHighEnds : MeasureName → ℕ → List Topic → ℕ → ℕ → List ℤ → Type 0
AreHighEnds measure unit topics a b highs =
    AllZip (λ z topic. InEvery measure topic.marks (topic.ranking a) (topic.ranking b) (IsAtLeast z unit)) highs topics

-- each number is at most unit times the run's score on its topic
abbrev pub AreLowBounds : MeasureName → ℕ → List Topic → ℕ → List ℤ → Type 0
AreLowBounds measure unit topics run lows =
    AllZip (λ z topic. InEveryScore measure topic.marks (topic.ranking run) (IsAtMostScore z unit)) lows topics

-- each number is at least unit times the run's score on its topic
abbrev pub AreHighBounds : MeasureName → ℕ → List Topic → ℕ → List ℤ → Type 0
AreHighBounds measure unit topics run highs =
    AllZip (λ z topic. InEveryScore measure topic.marks (topic.ranking run) (IsAtLeastScore z unit)) highs topics

-- each topic's ends are its extremes, and its least and its greatest difference are whole numbers of units
pub record AreExactEnds (measure : MeasureName) (unit : ℕ) (topics : List Topic) (a b : ℕ) (ends : List Ends) : Type 0 where
  pub extremes : AllZip (λ e topic. AreExtremes measure unit topic.marks (topic.ranking a) (topic.ranking b) e) ends topics
  pub least : All (λ e. e.least_lo ≡ e.least_hi) ends
  pub most : All (λ e. e.most_lo ≡ e.most_hi) ends
