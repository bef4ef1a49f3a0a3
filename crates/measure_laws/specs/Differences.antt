-- Differences of two scores, and the completion with the least one.
use Rattle.std.specs.Prelude.{◌≡◌, ℕ, ◌+◌, ◌*◌, ◌<◌, ◌≤◌, Bool, true, false, List, [], ◌∷◌, ◌++◌, length, nat_lt, if◌then◌else◌}
use Rattle.std.specs.List.{AllByRecursion}
use Rattle.desk_model.specs.Completion.{Completes}
use Rattle.desk_model.specs.Fraction.{Fraction}
use Rattle.desk_model.specs.Score.{score}
use Rattle.desk_model.specs.Extremes.{InEvery}
use Rattle.desk_model.specs.declared.types.Mark.{Mark}
use Rattle.desk_model.specs.declared.types.MeasureName.{MeasureName}

-- x minus y is at most v minus w
abbrev pub IsNoGreater : Fraction → Fraction → Fraction → Fraction → Type 0
IsNoGreater x y v w = (x.num * y.den) * (v.den * w.den) + (w.num * v.den) * (x.den * y.den) ≤ (v.num * w.den) * (x.den * y.den) + (y.num * x.den) * (v.den * w.den)

-- a completion, without tails, whose difference is at most that of every other one
pub record IsLeastCase (measure : MeasureName) (marks : List Mark) (a b : List ℕ) (truth : ℕ → Bool) : Type 0 where
  pub completes : Completes marks truth
  pub least : InEvery measure marks a b (λ v w. IsNoGreater (score measure (length marks) truth a []) (score measure (length marks) truth b []) v w)

-- two scores, whose difference is the first less the second
pub record Scores : Type 0 where
  pub first : Fraction
  pub second : Fraction

-- whether the difference of some scores is smaller than that of others
abbrev pub is_smaller : Scores → Scores → Bool
is_smaller s t =
    nat_lt ((s.first.num * s.second.den) * (t.first.den * t.second.den) + (t.second.num * t.first.den) * (s.first.den * s.second.den))
    ((t.first.num * t.second.den) * (s.first.den * s.second.den) + (s.second.num * s.first.den) * (t.first.den * t.second.den))

-- the first of some candidates whose difference is the smallest
abbrev pub first_least : {X : Type 0} → (X → Scores) → X → List X → X
first_least scores best [] = best
first_least scores best (c ∷ cs) = first_least scores (if is_smaller (scores c) (scores best) then c else best) cs

-- both scores have positive denominators
pub record ArePositive (s : Scores) : Type 0 where
  pub first : 0 < s.first.den
  pub second : 0 < s.second.den

-- one of some candidates: none has a smaller difference, and each before it has a greater one
pub record IsFirstLeast {X : Type 0} (scores : X → Scores) (candidates : List X) (x : X) : Type 0 where
  pub before : List X
  pub others : List X
  pub stands : candidates ≡ before ++ x ∷ others
  pub least : AllByRecursion (λ c. is_smaller (scores c) (scores x) ≡ false) candidates
  pub greater : AllByRecursion (λ c. is_smaller (scores x) (scores c) ≡ true) before
