-- The forms of a session's lines.
use Rattle.std.specs.Prelude.{◌≡◌, ◌≤◌, ◌≤ℤ◌, ◌↔◌, ◌⊎◌, ◌++◌, ℕ, true, false, List, [], ◌∷◌, length, codes, decimal, ℤ, pos, negsuc, neg_ℤ}
use Rattle.std.specs.List.{list_any}
use Rattle.desk_text.specs.Lines.{is_blank, is_bad, fields_of}
use Rattle.desk_text.specs.Numbers.{is_digits, read_on}
use Rattle.desk_text.specs.declared.line.TheConstants.{LONGEST_LINE}
use Rattle.desk_model.specs.Name.{is_name}
use Rattle.judge_session.specs.Request.{Request, Judge, Undo, Redo, Table, Pair, Certify, Pool, Next, Qrels, Quit, Heard, Bad, Asked, heard_of}

abbrev pub IsName : List ℕ → Type 0
IsName text = is_name text ≡ true

-- a grade is from -1,000 to 1,000
abbrev pub IsGrade : ℤ → Type 0
IsGrade grade = (negsuc 999 ≤ℤ grade) × (grade ≤ℤ pos 1000)

-- a depth is from 1 to 10,000
abbrev pub IsPoolDepth : ℕ → Type 0
IsPoolDepth depth = (1 ≤ depth) × (depth ≤ 10000)

-- digits, leading zeros allowed, with no sign, after `+` or after `-`
abbrev pub IsTextOfGrade : ℤ → List ℕ → Type 0
IsTextOfGrade grade text =
    (digits : List ℕ) × (is_digits digits ≡ true)
    × (((text ≡ digits) × (grade ≡ pos (read_on 0 digits)))
    ⊎ ((text ≡ codes "+" ++ digits) × (grade ≡ pos (read_on 0 digits)))
    ⊎ ((text ≡ codes "-" ++ digits) × (grade ≡ neg_ℤ (pos (read_on 0 digits)))))

-- the fields of a line that asks this
abbrev pub AreFieldsOf : Request → List (List ℕ) → Type 0
AreFieldsOf (Judge who topic doc grade) fields = (text : List ℕ) × (fields ≡ codes "judge" ∷ who ∷ topic ∷ doc ∷ text ∷ []) × IsTextOfGrade grade text
AreFieldsOf (Undo who) fields = fields ≡ codes "undo" ∷ who ∷ []
AreFieldsOf (Redo who) fields = fields ≡ codes "redo" ∷ who ∷ []
AreFieldsOf Table fields = fields ≡ codes "table" ∷ []
AreFieldsOf (Pair first second) fields = fields ≡ codes "pair" ∷ first ∷ second ∷ []
AreFieldsOf (Certify first second) fields = fields ≡ codes "certify" ∷ first ∷ second ∷ []
AreFieldsOf (Pool topic depth) fields = fields ≡ codes "pool" ∷ topic ∷ decimal depth ∷ []
AreFieldsOf Next fields = fields ≡ codes "next" ∷ []
AreFieldsOf Qrels fields = fields ≡ codes "qrels" ∷ []
AreFieldsOf Quit fields = fields ≡ codes "quit" ∷ []

-- names are names, a grade is a grade and a depth a depth
abbrev pub IsWithin : Request → Type 0
IsWithin (Judge who topic doc grade) = IsName who × IsName topic × IsName doc × IsGrade grade
IsWithin (Undo who) = IsName who
IsWithin (Redo who) = IsName who
IsWithin (Pair first second) = IsName first × IsName second
IsWithin (Certify first second) = IsName first × IsName second
IsWithin (Pool topic depth) = IsName topic × IsPoolDepth depth
IsWithin request = Unit {0}

-- the same of what is heard
abbrev pub IsHeardWithin : Heard → Type 0
IsHeardWithin (Asked request) = IsWithin request
IsHeardWithin heard = Unit {0}

-- a line of the form that asks this
pub record IsFormOf (request : Request) (line : List ℕ) : Type 0 where
  pub short : length line ≤ LONGEST_LINE
  pub good : list_any is_bad line ≡ false
  pub fields : AreFieldsOf request (fields_of line)
  pub within : IsWithin request

-- a line asks something exactly where it is of its form
abbrev pub RequestsAreOfTheirForm : Type 0
RequestsAreOfTheirForm = (line : List ℕ) (request : Request) → (heard_of line ≡ Asked request) ↔ IsFormOf request line

-- a line is bad exactly where it is short enough, not blank and of no form
abbrev pub BadLinesAreOfNoForm : Type 0
BadLinesAreOfNoForm =
    (line : List ℕ) → (heard_of line ≡ Bad) ↔ ((length line ≤ LONGEST_LINE) × (is_blank line ≡ false) × ((request : Request) → ¬ (IsFormOf request line)))
