-- What a reader of a part of a text answers.
use Rattle.std.specs.Prelude.{◌≡◌, ◌≢◌, ℕ, List, [], ◌∷◌, ◌++◌, Option, Some, None, Result, Ok, Err}
use Rattle.std.specs.List.{AllByRecursion}
use Rattle.line_forms.specs.declared.lines.FormFault.{FormFault}
use Rattle.line_forms.specs.declared.lines.FormFault.TheVariants.{Bad, Memory}
use Rattle.line_forms.specs.Form.{Form, Spells, CanStand, ended, text_of}

-- the bytes of a text from the line on that was taken last, and those after it
pub record Left : Type 0 where
  pub last : List ℕ
  pub rest : List ℕ

-- bytes begin with lines that spell a value, and go on with others
pub record BeginsWith {X : Type 0} (form : Form X) (bytes : List ℕ) (x : X) (rest : List ℕ) : Type 0 where
  pub lines : List (List ℕ)
  pub split : bytes ≡ text_of lines ++ rest
  pub spells : Spells form lines x

-- bytes do not begin with a value of a form: lines that can stand come before the last of them, and spell no value yet, and the first line of
-- the last cannot stand after them, or is not there, or lacks its line feed
pub record FailsAt {X : Type 0} (form : Form X) (bytes : List ℕ) (last : List ℕ) : Type 0 where
  pub before : List (List ℕ)
  pub split : bytes ≡ text_of before ++ last
  pub stand : CanStand form before
  pub fails : (line more : List ℕ) → last ≡ ended line ++ more → CanStand form (before ++ line ∷ []) → ⊥
  pub unfinished : (x : X) → Spells form before x → ⊥

-- the value that bytes begin with and what is left after it, or where they begin with none
abbrev pub IsReading : {X : Type 0} → Form X → List ℕ → Result X FormFault → Left → Type 0
IsReading form bytes (Ok x) left = BeginsWith form bytes x left.rest
IsReading form bytes (Err Bad) left = FailsAt form bytes left.last
IsReading form bytes (Err Memory) left = Unit {0}

-- what one line shows, or that it shows nothing that fits
abbrev pub IsPartOf : {P : Type 0} → (P → List ℕ) → (P → Type 0) → List ℕ → Result P FormFault → Type 0
IsPartOf show Fits line (Ok part) = Fits part × (line ≡ show part)
IsPartOf {P} show Fits line (Err Bad) = (part : P) → Fits part → line ≢ show part
IsPartOf show Fits line (Err Memory) = Unit {0}

-- bytes do not begin with a line that shows a part that fits
abbrev pub BeginsWithNone : {P : Type 0} → (P → List ℕ) → (P → Type 0) → List ℕ → Type 0
BeginsWithNone {P} show Fits bytes = (part : P) (more : List ℕ) → Fits part → bytes ≢ ended (show part) ++ more

-- the part that the next line shows, which was taken; or that line shows none that fits, and nothing was taken
abbrev pub IsTakenIfNext : {P : Type 0} → (P → List ℕ) → (P → Type 0) → Left → Option P → Left → Type 0
IsTakenIfNext show Fits old (Some part) new = Fits part × (old.rest ≡ ended (show part) ++ new.rest)
IsTakenIfNext show Fits old None new = BeginsWithNone show Fits old.rest × (new ≡ old)

-- bytes without one byte
abbrev pub IsFreeOf : ℕ → List ℕ → Type 0
IsFreeOf s bytes = AllByRecursion (λ b. b ≢ s) bytes
