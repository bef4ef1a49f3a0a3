-- Places of the commonest kinds.
use Rattle.std.specs.Prelude.{◌≡◌, ℕ, ◌<◌, ◌^◌, true, List, ◌∷◌, ◌++◌, All, decimal, ℤ, unsigned_abs}
use Rattle.std.specs.declared.cmp.Ordering.TheVariants.{Less}
use Rattle.desk_model.specs.Name.{is_name, name_cmp, AreAscending}
use Rattle.line_forms.specs.Form.{Form, Whole, Line}

-- a name that is greater than the one before it, which is empty where there is none
abbrev pub IsLaterName : List ℕ → List ℕ → Type 0
IsLaterName before name = (is_name name ≡ true) × (name_cmp before name ≡ Less)

-- different names, in ascending order
pub record AreAscendingNames (names : List (List ℕ)) : Type 0 where
  pub named : All (λ name. is_name name ≡ true) names
  pub ascending : AreAscending names

-- a number of at most 19 digits
abbrev pub IsShortNumber : ℤ → Type 0
IsShortNumber z = unsigned_abs z < 10 ^ 19

-- a word, a name and a number
abbrev pub count_line : List ℕ → List ℕ → ℕ → List ℕ
count_line word name count = word ++ name ++ 32 ∷ decimal count

-- a line that is always the same
abbrev pub fixed_place : List ℕ → Form (Unit {0})
fixed_place text = Line (λ _. text) (λ _. Unit {0}) Whole

-- a word and a name
abbrev pub name_place : List ℕ → Form (List ℕ)
name_place word = Line (λ name. word ++ name) (λ name. is_name name ≡ true) Whole

-- a word and a name that comes after another
abbrev pub later_name_place : List ℕ → List ℕ → Form (List ℕ)
later_name_place word before = Line (λ name. word ++ name) (IsLaterName before) Whole

-- a word and a number
abbrev pub number_place : List ℕ → (ℕ → Type 0) → Form ℕ
number_place word Fits = Line (λ n. word ++ decimal n) Fits Whole

-- a word, a name that comes after another, and a number
abbrev pub name_and_count_place : List ℕ → (ℕ → Type 0) → List ℕ → Form (List ℕ × ℕ)
name_and_count_place word Fits before = Line {P = List ℕ × ℕ} (λ p. count_line word p.0 p.1) (λ p. IsLaterName before p.0 × Fits p.1) Whole
