-- What the numbers of a table say of the means of its runs.
use Rattle.std.specs.Prelude.{◌≡◌, ◌≢◌, ℕ, ◌*◌, ◌<◌, List, length, pos, neg_ℤ, ◌≤ℤ◌, ◌⊎◌}
use Rattle.std.specs.List.{AllZip, sum_by}
use Rattle.desk_model.specs.Completion.{Completion}
use Rattle.desk_model.specs.Desk.{Desk, IsDesk, AreMarksOf, topics_under}
use Rattle.desk_model.specs.Extremes.{IsAtMostScore, IsAtLeastScore}
use Rattle.desk_model.specs.Fraction.{IsAtMost, IsAtLeast}
use Rattle.desk_model.specs.Order.{Topic, IsCompletion, run_mean, IsAlwaysAbove, AreAlwaysEqual}
use Rattle.desk_model.specs.Pairs.{pairs_of}
use Rattle.desk_model.specs.Verdict.{verdict}
use Rattle.desk_model.specs.declared.types.Mark.{Mark}
use Rattle.desk_model.specs.declared.types.MeasureName.{MeasureName}
use Rattle.desk_model.specs.declared.types.Totals.{Totals}
use Rattle.desk_model.specs.declared.types.Verdict.TheVariants.{Above, Below, Equal, Open}
use Rattle.topic_counts.specs.declared.span.Span.{Span}
use Rattle.desk_model.specs.MeasureText.{IsMeasure}
use Rattle.measure_laws.specs.Cases.{least_truth, HasLeastTails}
use Rattle.measure_laws.specs.Measures.{unit_of}
use Rattle.measure_core.specs.Made.{width_of}
use Rattle.order_certificate.specs.Claim.{Differ}
use Rattle.pair_table.specs.Sums.{run_numbers}
use Rattle.pair_table.specs.Numbers.{ArePairNumbers, AreNumbersIn}

-- a completion of a topic is the least case of two runs, with the tails that go with it
pub record IsLeastCaseOf (measure : MeasureName) (a b : ℕ) (c : Completion) (topic : Topic) : Type 0 where
  pub truth : (doc : ℕ) → c.truth doc ≡ least_truth measure topic.marks (topic.ranking a) (topic.ranking b) doc
  pub tails : HasLeastTails measure (c.tail a) (c.tail b)

-- two completions of the judgements differ on the order of two runs: the least case of the two on each topic, and that of the swapped runs
pub record AreUndecided (measure : MeasureName) (topics : List Topic) (a b : ℕ) : Type 0 where
  pub low : List Completion
  pub high : List Completion
  pub low_completes : IsCompletion topics low
  pub high_completes : IsCompletion topics high
  pub low_is : AllZip (IsLeastCaseOf measure a b) low topics
  pub high_is : AllZip (IsLeastCaseOf measure b a) high topics
  pub differ : Differ measure topics a b low high

-- in every completion the order of two means is that of the verdict, two completions differ on it where the verdict is open, and unit times topics times their difference lies from least_lo to most_hi
pub record HoldsOfPair (measure : MeasureName) (topics : List Topic) (a b : ℕ) (t : Totals) : Type 0 where
  pub above : verdict t ≡ Above → IsAlwaysAbove measure topics a b
  pub below : verdict t ≡ Below → IsAlwaysAbove measure topics b a
  pub equal : verdict t ≡ Equal → AreAlwaysEqual measure topics a b
  pub undecided : verdict t ≡ Open → AreUndecided measure topics a b
  pub least : (cs : List Completion) → IsCompletion topics cs →
      IsAtMost t.least_lo (unit_of measure * length topics) (run_mean measure a topics cs) (run_mean measure b topics cs)
  pub most : (cs : List Completion) → IsCompletion topics cs →
      IsAtLeast t.most_hi (unit_of measure * length topics) (run_mean measure a topics cs) (run_mean measure b topics cs)

-- in every completion unit times topics times the run's mean lies within the summed bounds
pub record HoldsOfRun (measure : MeasureName) (topics : List Topic) (run : ℕ) (s : Span) : Type 0 where
  pub low : (cs : List Completion) → IsCompletion topics cs → IsAtMostScore s.lo (unit_of measure * length topics) (run_mean measure run topics cs)
  pub high : (cs : List Completion) → IsCompletion topics cs → IsAtLeastScore s.hi (unit_of measure * length topics) (run_mean measure run topics cs)

-- how far apart the two ends of a least or greatest difference may be, summed over all topics
abbrev pub total_width : MeasureName → List Topic → ℕ → ℕ → ℕ
total_width measure topics a b = sum_by (λ (topic : Topic). width_of measure (topic.ranking a) (topic.ranking b)) topics

-- the least sum is not above zero and that near to it, or the greatest is not below zero and that near to it
abbrev pub IsNearZero : ℕ → Totals → Type 0
IsNearZero width t = ((neg_ℤ (pos width) ≤ℤ t.least_lo) × (t.least_lo ≤ℤ pos 0)) ⊎ ((pos 0 ≤ℤ t.most_hi) × (t.most_hi ≤ℤ pos width))

-- a fact of the sums of each pair of runs, where these are the numbers of a measure's name over a desk and its marks
abbrev pub ForEachPair : (MeasureName → List Topic → ℕ → ℕ → Totals → Type 0) → Type 0
ForEachPair fact =
    (name : MeasureName) (desk : Desk) (marks : List (List Mark)) (bounds : List Span) (totals : List Totals) → IsMeasure name → IsDesk desk → AreMarksOf desk marks → AreNumbersIn name desk marks bounds totals →
    AllZip (λ pair sums. fact name (topics_under desk marks) pair.0 pair.1 sums) (pairs_of (run_numbers (length desk.runs))) totals

-- a fact of the sums of any two different runs of a desk, in either order, where these are the numbers of a measure's name
abbrev pub ForTwoRuns : (MeasureName → List Topic → ℕ → ℕ → Totals → Type 0) → Type 0
ForTwoRuns fact =
    (name : MeasureName) (desk : Desk) (marks : List (List Mark)) (a b : ℕ) (totals : Totals) → IsMeasure name → IsDesk desk → AreMarksOf desk marks → a < length desk.runs → b < length desk.runs → a ≢ b →
    ArePairNumbers name (topics_under desk marks) a b totals → fact name (topics_under desk marks) a b totals

-- a fact of the summed bounds of each run
abbrev pub ForEachRun : (MeasureName → List Topic → ℕ → Span → Type 0) → Type 0
ForEachRun fact =
    (name : MeasureName) (desk : Desk) (marks : List (List Mark)) (bounds : List Span) (totals : List Totals) → IsMeasure name → IsDesk desk → AreMarksOf desk marks → AreNumbersIn name desk marks bounds totals →
    AllZip (λ run span. fact name (topics_under desk marks) run span) (run_numbers (length desk.runs)) bounds
