-- The extremes of a topic: the least and the greatest difference of two rankings over all completions, in whole units.
use Rattle.std.specs.Prelude.{ℕ, Bool, List, length, ℤ, ◌≤ℤ◌}
use Rattle.desk_model.specs.Completion.{Completes}
use Rattle.desk_model.specs.Fraction.{Fraction, over, IsAtMost, IsAtLeast}
use Rattle.desk_model.specs.Score.{score}
use Rattle.desk_model.specs.declared.types.Mark.{Mark}
use Rattle.desk_model.specs.declared.types.MeasureName.{MeasureName}

-- the greatest whole number that is so
pub record IsGreatest (holds : ℤ → Type 0) (z : ℤ) : Type 0 where
  pub so : holds z
  pub others : (w : ℤ) → holds w → w ≤ℤ z

-- the smallest whole number that is so
pub record IsSmallest (holds : ℤ → Type 0) (z : ℤ) : Type 0 where
  pub so : holds z
  pub others : (w : ℤ) → holds w → z ≤ℤ w

-- a fact of the scores of two rankings in every completion of a topic
abbrev pub InEvery : MeasureName → List Mark → List ℕ → List ℕ → (Fraction → Fraction → Type 0) → Type 0
InEvery measure marks a b fact =
    (truth : ℕ → Bool) (tail_a tail_b : List Bool) → Completes marks truth → fact (score measure (length marks) truth a tail_a) (score measure (length marks) truth b tail_b)

-- a fact of the scores of two rankings in some completion of a topic
abbrev pub InSome : MeasureName → List Mark → List ℕ → List ℕ → (Fraction → Fraction → Type 0) → Type 0
InSome measure marks a b fact =
    (truth : ℕ → Bool) × (tail_a : List Bool) × (tail_b : List Bool) × Completes marks truth × fact (score measure (length marks) truth a tail_a) (score measure (length marks) truth b tail_b)

-- the two ends of the least difference, and those of the greatest
pub record Ends : Type 0 where
  pub least_lo : ℤ
  pub least_hi : ℤ
  pub most_lo : ℤ
  pub most_hi : ℤ

-- the four ends are the floors and the ceilings of unit times the least and the greatest difference
pub record AreExtremes (measure : MeasureName) (unit : ℕ) (marks : List Mark) (a b : List ℕ) (ends : Ends) : Type 0 where
  pub least_lo : IsGreatest (λ z. InEvery measure marks a b (IsAtMost z unit)) ends.least_lo
  pub least_hi : IsSmallest (λ z. InSome measure marks a b (IsAtLeast z unit)) ends.least_hi
  pub most_hi : IsSmallest (λ z. InEvery measure marks a b (IsAtLeast z unit)) ends.most_hi
  pub most_lo : IsGreatest (λ z. InSome measure marks a b (IsAtMost z unit)) ends.most_lo

-- a fact of the score of a ranking in every completion of a topic
abbrev pub InEveryScore : MeasureName → List Mark → List ℕ → (Fraction → Type 0) → Type 0
InEveryScore measure marks a fact =
    (truth : ℕ → Bool) (tail : List Bool) → Completes marks truth → fact (score measure (length marks) truth a tail)

-- a whole number that is at most unit times a score
abbrev pub IsAtMostScore : ℤ → ℕ → Fraction → Type 0
IsAtMostScore z unit x = IsAtMost z unit x (over 0 1)

-- a whole number that is at least unit times a score
abbrev pub IsAtLeastScore : ℤ → ℕ → Fraction → Type 0
IsAtLeastScore z unit x = IsAtLeast z unit x (over 0 1)

-- the bounds of one run are the floor of unit times its least score and the ceiling of unit times its greatest
pub record AreBounds (measure : MeasureName) (unit : ℕ) (marks : List Mark) (a : List ℕ) (lo hi : ℤ) : Type 0 where
  pub low : IsGreatest (λ z. InEveryScore measure marks a (IsAtMostScore z unit)) lo
  pub high : IsSmallest (λ z. InEveryScore measure marks a (IsAtLeastScore z unit)) hi
