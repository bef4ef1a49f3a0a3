-- What the numbers by grades say of the means of runs.
use Rattle.std.specs.Prelude.{◌≡◌, ◌≢◌, ◌⊎◌, ℕ, ◌^◌, ◌*◌, ◌<◌, Bool, if◌then◌else◌, List, [], length, All, min, Option, Some, None, ℤ, pos, negsuc}
use Rattle.std.specs.List.{AllZip}
use Rattle.desk_model.specs.Desk.{Desk, IsDesk}
use Rattle.desk_model.specs.Extremes.{IsAtMostScore, IsAtLeastScore}
use Rattle.desk_model.specs.Fraction.{IsBelow, IsSame, IsAtMost, IsAtLeast}
use Rattle.desk_model.specs.Verdict.{verdict}
use Rattle.desk_model.specs.declared.types.Totals.{Totals}
use Rattle.desk_model.specs.declared.types.Verdict.TheVariants.{Above, Below, Equal, Open}
use Rattle.measure_laws.specs.Cases.{least_truth}
use Rattle.topic_counts.specs.declared.span.Span.{Span}
use Rattle.graded_rbp.specs.Grades.{GradedTopic, GradedCompletion, IsGradedCompletion, graded_topics, grade_at}
use Rattle.graded_rbp.specs.Levels.{level_topic}
use Rattle.graded_rbp.specs.Numbers.{graded_totals, graded_bounds}
use Rattle.graded_rbp.specs.Score.{GradedMeasure, IsGradedMeasure, binary, graded_unit, graded_mean}

-- the mean of a is smaller than that of b in a completion by grades
abbrev pub IsBelowByGrades : GradedMeasure → List GradedTopic → ℕ → ℕ → List GradedCompletion → Type 0
IsBelowByGrades m topics a b cs = IsBelow (graded_mean m a topics cs) (graded_mean m b topics cs)

-- the mean of a is greater than that of b in every completion by grades
pub record IsAlwaysAboveByGrades (m : GradedMeasure) (topics : List GradedTopic) (a b : ℕ) : Type 0 where
  pub in_every : (cs : List GradedCompletion) → IsGradedCompletion m.greatest topics cs → IsBelowByGrades m topics b a cs

-- the two means are equal in every completion by grades
pub record AreAlwaysEqualByGrades (m : GradedMeasure) (topics : List GradedTopic) (a b : ℕ) : Type 0 where
  pub in_every : (cs : List GradedCompletion) → IsGradedCompletion m.greatest topics cs → IsSame (graded_mean m a topics cs) (graded_mean m b topics cs)

-- ---- the two completions by grades of an open pair
-- the number of a document: the greatest or 0 where it is unjudged, as it is picked or not, and else that of its grade
abbrev pub case_number : ℕ → Option ℤ → Bool → ℕ
case_number greatest None pick = if pick then greatest else 0
case_number greatest (Some (negsuc _)) pick = if pick then greatest else 0
case_number greatest (Some (pos grade)) pick = min grade greatest

-- a tail of 10^24 places of the greatest number
pub record IsLongGradedTail (greatest : ℕ) (tail : List ℕ) : Type 0 where
  pub full : All (λ number. number ≡ greatest) tail
  pub length_is : length tail ≡ 10 ^ 24

-- a completion of a topic is the least case by grades: of the unjudged documents those that the least case makes relevant have the greatest number and
-- the others 0, a has no tail and b a long one. Which documents these are does not depend on the level
pub record IsLeastCaseByGrades (m : GradedMeasure) (a b : ℕ) (topic : GradedTopic) (c : GradedCompletion) : Type 0 where
  pub numbers : (doc : ℕ) →
      c.number doc ≡ case_number m.greatest (grade_at topic.grades doc) (least_truth (binary m) (level_topic 1 topic).marks (topic.ranking a) (topic.ranking b) doc)
  pub none : c.tail a ≡ []
  pub long : IsLongGradedTail m.greatest (c.tail b)

-- two completions by grades differ on the order of two runs: the least case of the two on each topic, and that of the swapped runs
pub record AreUndecidedByGrades (m : GradedMeasure) (topics : List GradedTopic) (a b : ℕ) : Type 0 where
  pub low : List GradedCompletion
  pub high : List GradedCompletion
  pub low_completes : IsGradedCompletion m.greatest topics low
  pub high_completes : IsGradedCompletion m.greatest topics high
  pub low_is : AllZip (IsLeastCaseByGrades m a b) topics low
  pub high_is : AllZip (IsLeastCaseByGrades m b a) topics high
  pub differ :
      (IsBelowByGrades m topics a b low × (IsBelowByGrades m topics a b high → ⊥))
      ⊎ ((IsBelowByGrades m topics b a low → ⊥) × IsBelowByGrades m topics b a high)

-- ---- what the numbers say
-- in every completion by grades the order of two means is that of the verdict, two completions by grades differ on it where the verdict is open, and
-- the difference of the means, in parts over all topics, lies from least_lo to most_hi
pub record HoldsByGrades (m : GradedMeasure) (topics : List GradedTopic) (a b : ℕ) (t : Totals) : Type 0 where
  pub above : verdict t ≡ Above → IsAlwaysAboveByGrades m topics a b
  pub below : verdict t ≡ Below → IsAlwaysAboveByGrades m topics b a
  pub equal : verdict t ≡ Equal → AreAlwaysEqualByGrades m topics a b
  pub undecided : verdict t ≡ Open → AreUndecidedByGrades m topics a b
  pub least : (cs : List GradedCompletion) → IsGradedCompletion m.greatest topics cs →
      IsAtMost t.least_lo (graded_unit m * length topics) (graded_mean m a topics cs) (graded_mean m b topics cs)
  pub most : (cs : List GradedCompletion) → IsGradedCompletion m.greatest topics cs →
      IsAtLeast t.most_hi (graded_unit m * length topics) (graded_mean m a topics cs) (graded_mean m b topics cs)

-- in every completion by grades the mean of a run, in parts over all topics, lies within its bounds
pub record HoldsOfRunByGrades (m : GradedMeasure) (topics : List GradedTopic) (run : ℕ) (s : Span) : Type 0 where
  pub low : (cs : List GradedCompletion) → IsGradedCompletion m.greatest topics cs → IsAtMostScore s.lo (graded_unit m * length topics) (graded_mean m run topics cs)
  pub high : (cs : List GradedCompletion) → IsGradedCompletion m.greatest topics cs → IsAtLeastScore s.hi (graded_unit m * length topics) (graded_mean m run topics cs)

-- a fact of the sums by grades of any two different runs of a desk, in either order
abbrev pub ForTwoRunsByGrades : (GradedMeasure → List GradedTopic → ℕ → ℕ → Totals → Type 0) → Type 0
ForTwoRunsByGrades fact =
    (m : GradedMeasure) (desk : Desk) (a b : ℕ) → IsGradedMeasure m → IsDesk desk → a < length desk.runs → b < length desk.runs → a ≢ b →
    fact m (graded_topics desk) a b (graded_totals m a b (graded_topics desk))

-- a fact of the bounds by grades of each run of a desk
abbrev pub ForEachRunByGrades : (GradedMeasure → List GradedTopic → ℕ → Span → Type 0) → Type 0
ForEachRunByGrades fact =
    (m : GradedMeasure) (desk : Desk) (run : ℕ) → IsGradedMeasure m → IsDesk desk → run < length desk.runs →
    fact m (graded_topics desk) run (graded_bounds m run (graded_topics desk))
