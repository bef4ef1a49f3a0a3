-- What the order of runs says of their scores and means.
use Rattle.std.specs.Prelude.{◌≡◌, ◌↔◌, ℕ, ◌<◌, Bool, true, List, length, count_by}
use Rattle.std.specs.List.{AllZip}
use Rattle.desk_model.specs.Desk.{Desk, IsDesk, AreMarksOf, topics_under}
use Rattle.desk_model.specs.Extremes.{InEvery}
use Rattle.desk_model.specs.Fraction.{IsBelow}
use Rattle.desk_model.specs.MeasureText.{IsMeasure}
use Rattle.desk_model.specs.Order.{Topic, IsAlwaysAbove}
use Rattle.desk_model.specs.declared.types.Mark.{Mark}
use Rattle.desk_model.specs.declared.types.MeasureName.{MeasureName}
use Rattle.desk_model.specs.declared.types.Totals.{Totals}
use Rattle.measure_core.specs.Laws.{MeetsLaws}
use Rattle.measure_core.specs.declared.cell.Cell.{Cell}
use Rattle.pair_table.specs.Numbers.{AreAllPairNumbers}
use Rattle.pair_table.specs.Sums.{all_pair_sums}
use Rattle.topic_counts.specs.declared.span.Span.{Span}
use Rattle.order_tiers.specs.Order.{ComparedRuns, compared, IsAboveIn, IsCertifiedIn}
use Rattle.order_tiers.specs.declared.cover.Cover.{Cover}

-- a fact of the runs of a desk under marks, compared by the numbers of a measure's name
abbrev pub ForNamed : (MeasureName → ComparedRuns → Type 0) → Type 0
ForNamed fact =
    (name : MeasureName) (desk : Desk) (marks : List (List Mark)) (totals : List Totals) → IsMeasure name → IsDesk desk → AreMarksOf desk marks → AreAllPairNumbers name desk marks totals → fact name (compared desk marks totals)

-- the same, compared by the sums of a measure that meets its laws
abbrev pub ForMeasured : (MeasureName → ComparedRuns → Type 0) → Type 0
ForMeasured fact =
    (name : MeasureName) (cell : List Mark → List ℕ → List ℕ → Cell) (bounds : List Mark → List ℕ → Span) (desk : Desk) (marks : List (List Mark)) → IsMeasure name → MeetsLaws name cell bounds → IsDesk desk → AreMarksOf desk marks →
    fact name (compared desk marks (all_pair_sums cell (topics_under desk marks) (length desk.runs)))

-- where a run is certified above another, its mean is greater in every completion
abbrev pub CertifiedHold : MeasureName → ComparedRuns → Type 0
CertifiedHold name t = (a b : ℕ) → IsCertifiedIn t a b → IsAlwaysAbove name t.topics a b

-- a run is certified above another exactly where its mean is greater in every completion
abbrev pub CertifiedIsExact : MeasureName → ComparedRuns → Type 0
CertifiedIsExact name t = (a b : ℕ) → a < t.runs → b < t.runs → (IsCertifiedIn t a b) ↔ IsAlwaysAbove name t.topics a b

-- a run that is certified above another is above it by the verdict of the two
abbrev pub ChainsAddNoPair : ComparedRuns → Type 0
ChainsAddNoPair t = (a b : ℕ) → IsCertifiedIn t a b → IsAboveIn t a b

-- on a topic the score of the first run is greater in every completion
abbrev pub ScoresAbove : MeasureName → ℕ → ℕ → Topic → Type 0
ScoresAbove measure a b topic = InEvery measure topic.marks (topic.ranking a) (topic.ranking b) (λ x y. IsBelow y x)

-- a fact holds of so many of some topics: of each that is picked
pub record HoldsOfSoMany (fact : Topic → Type 0) (topics : List Topic) (count : ℕ) : Type 0 where
  pub picked : List Bool
  pub each : AllZip (λ (pick : Bool) (topic : Topic). pick ≡ true → fact topic) picked topics
  pub picks : count_by (λ (pick : Bool). pick) picked ≡ count

-- what a covering pair says is so: the first run's mean is greater in every completion, on each topic that it wins its score is, and on
-- each that it loses the second's
pub record CoverHolds (measure : MeasureName) (topics : List Topic) (c : Cover) : Type 0 where
  pub above : IsAlwaysAbove measure topics c.first c.second
  pub wins : HoldsOfSoMany (ScoresAbove measure c.first c.second) topics c.wins
  pub losses : HoldsOfSoMany (ScoresAbove measure c.second c.first) topics c.losses

-- a covering pair has the verdict above itself, read from the first run's side, and wins a topic
pub record IsWonPair (t : ComparedRuns) (c : Cover) : Type 0 where
  pub above : IsAboveIn t c.first c.second
  pub wins : 0 < c.wins
