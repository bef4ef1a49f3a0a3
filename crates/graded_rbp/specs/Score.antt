-- Rank-biased precision by grades: the gain of a place is its number divided by the greatest one.
use Rattle.std.specs.Prelude.{ℕ, ◌+◌, ◌-◌, ◌*◌, ◌^◌, ◌≤◌, List, [], ◌∷◌, ◌++◌, length, map}
use Rattle.desk_model.specs.Fraction.{Fraction, over, mean}
use Rattle.desk_model.specs.Limits.{PARTS_OF_ONE}
use Rattle.desk_model.specs.MeasureText.{IsPersistence}
use Rattle.desk_model.specs.declared.types.MeasureName.{MeasureName}
use Rattle.desk_model.specs.declared.types.MeasureName.TheVariants.{Precision, Recall, RPrecision, Reciprocal, Biased, AveragePrecision}
use Rattle.graded_rbp.specs.Grades.{GradedTopic, GradedCompletion}

-- rank-biased precision
abbrev pub IsBiased : MeasureName → Type 0
IsBiased (Precision k) = ⊥
IsBiased (Recall k) = ⊥
IsBiased RPrecision = ⊥
IsBiased Reciprocal = ⊥
IsBiased (Biased top bottom) = Unit {0}
IsBiased AveragePrecision = ⊥

-- the largest greatest number
abbrev pub GREATEST_LIMIT : ℕ
GREATEST_LIMIT = 10

-- rank-biased precision by grades: the persistence is top over bottom, and numbers go up to the greatest
pub record GradedMeasure : Type 0 where
  pub top : ℕ
  pub bottom : ℕ
  pub greatest : ℕ

-- a persistence of a measure, and a greatest number from 1 to 10
pub record IsGradedMeasure (m : GradedMeasure) : Type 0 where
  pub persistence : IsPersistence m.top m.bottom
  pub some : 1 ≤ m.greatest
  pub few : m.greatest ≤ GREATEST_LIMIT

-- the measure of gains that are 0 or 1
abbrev pub binary : GradedMeasure → MeasureName
binary m = Biased m.top m.bottom

-- how many parts make a score of 1
abbrev pub graded_unit : GradedMeasure → ℕ
graded_unit m = m.greatest * PARTS_OF_ONE

-- the sum of what the ranks are worth, each as often as its number says, where the list begins at a rank
abbrev pub gained_by_grades : (ℕ → ℕ) → ℕ → List ℕ → ℕ
gained_by_grades worth rank [] = 0
gained_by_grades worth rank (number ∷ numbers) = number * worth rank + gained_by_grades worth (rank + 1) numbers

-- rank-biased precision of the numbers at all ranks
abbrev pub graded_biased : GradedMeasure → List ℕ → Fraction
graded_biased m numbers =
    let n = length numbers in
    over ((m.bottom - m.top) * gained_by_grades (λ rank. m.top ^ (rank - 1) * m.bottom ^ (n - rank)) 1 numbers) (m.greatest * m.bottom ^ n)

-- what a run scores on a topic in a completion by grades
abbrev pub graded_score : GradedMeasure → ℕ → GradedTopic → GradedCompletion → Fraction
graded_score m run topic c = graded_biased m (map c.number (topic.ranking run) ++ c.tail run)

-- what it scores on each topic
abbrev pub graded_scores : GradedMeasure → ℕ → List GradedTopic → List GradedCompletion → List Fraction
graded_scores m run [] cs = []
graded_scores m run (topic ∷ topics) [] = []
graded_scores m run (topic ∷ topics) (c ∷ cs) = graded_score m run topic c ∷ graded_scores m run topics cs

-- its mean over all topics
abbrev pub graded_mean : GradedMeasure → ℕ → List GradedTopic → List GradedCompletion → Fraction
graded_mean m run topics cs = mean (graded_scores m run topics cs)
