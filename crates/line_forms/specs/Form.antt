-- Texts that are written line by line: which line may stand at a place depends on what the lines before it say.
use Rattle.std.specs.Prelude.{◌≡◌, ℕ, suc, List, [], ◌∷◌, ◌++◌, length, flat_map}

-- what may still be written: nothing, as a value is whole, or a line that shows one of some parts, and then what that part asks for
pub data Form (X : Type 0) : Type 1 where
  Whole : X → Form X
  Line : {P : Type 0} → (P → List ℕ) → (P → Type 0) → (P → Form X) → Form X

-- the lines spell a value: each shows a part that fits its place, and nothing more is asked for
abbrev pub Spells : {X : Type 0} → Form X → List (List ℕ) → X → Type 0
Spells (Whole x) [] y = x ≡ y
Spells (Whole x) (line ∷ lines) y = ⊥
Spells (Line show Fits next) [] y = ⊥
Spells (Line {P} show Fits next) (line ∷ lines) y = (part : P) × Fits part × (line ≡ show part) × Spells (next part) lines y

-- the lines can stand, one after another, whatever may come later
abbrev pub CanStand : {X : Type 0} → Form X → List (List ℕ) → Type 0
CanStand form [] = Unit {0}
CanStand (Whole x) (line ∷ lines) = ⊥
CanStand (Line {P} show Fits next) (line ∷ lines) = (part : P) × Fits part × (line ≡ show part) × CanStand (next part) lines

-- a line with its line feed
abbrev pub ended : List ℕ → List ℕ
ended line = line ++ 10 ∷ []

-- a text of whole lines
abbrev pub text_of : List (List ℕ) → List ℕ
text_of lines = flat_map ended lines

-- bytes are the text of a value in a form
abbrev pub IsTextIn : {X : Type 0} → Form X → List ℕ → X → Type 0
IsTextIn form bytes x = (lines : List (List ℕ)) × (bytes ≡ text_of lines) × Spells form lines x

-- the number, from 1, of the first line of bytes that is not as the form wants it at its place: the lines before it can stand, and it cannot
-- stand after them, or is not there, or lacks its line feed
pub record IsFirstBad {X : Type 0} (form : Form X) (bytes : List ℕ) (number : ℕ) : Type 0 where
  pub before : List (List ℕ)
  pub rest : List ℕ
  pub split : bytes ≡ text_of before ++ rest
  pub counted : number ≡ suc (length before)
  pub stand : CanStand form before
  pub fails : (line more : List ℕ) → rest ≡ ended line ++ more → CanStand form (before ++ line ∷ []) → ⊥
  pub unfinished : (x : X) → rest ≡ [] → Spells form before x → ⊥

-- one form, and then the form that its value asks for
abbrev pub bind : {V X : Type 0} → Form V → (V → Form X) → Form X
bind (Whole v) then = then v
bind (Line show Fits next) then = Line show Fits (λ part. bind (next part) then)
