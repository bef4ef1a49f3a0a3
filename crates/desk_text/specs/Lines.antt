-- The lines of a text, and the fields of a line.
use Rattle.std.specs.Prelude.{◌≡◌, ℕ, ◌<◌, ◌≤◌, Bool, true, false, ◌||◌, ◌&&◌, not, nat_lt, nat_le, ◌==◌, List, [], ◌∷◌, ◌++◌, if◌then◌else◌, filter, length, slice_range, map, take, All, Option, None, Some}
use Rattle.std.specs.List.{list_all, list_any, AllByRecursion}
use Rattle.desk_text.specs.declared.arriving.Pushed.{Pushed}
use Rattle.desk_text.specs.declared.line.TheConstants.{LONGEST_LINE}

-- a piece that is not empty
abbrev pub is_filled : List ℕ → Bool
is_filled xs = nat_lt 0 (length xs)

-- a byte at the start of the first of the pieces
abbrev pub onto_first : ℕ → List (List ℕ) → List (List ℕ)
onto_first b [] = (b ∷ []) ∷ []
onto_first b (p ∷ ps) = (b ∷ p) ∷ ps

-- the lines of a text: each line feed ends one, and what is left after the last is one if it is not empty
abbrev pub lines : List ℕ → List (List ℕ)
lines [] = []
lines (b ∷ bs) = if b == 10 then [] ∷ lines bs else onto_first b (lines bs)

-- a byte at the start of the first whole line, if there is one
abbrev pub onto_whole : ℕ → List (List ℕ) → List (List ℕ)
onto_whole b [] = []
onto_whole b (line ∷ lines) = (b ∷ line) ∷ lines

-- the lines that a line feed ended
abbrev pub whole_lines : List ℕ → List (List ℕ)
whole_lines [] = []
whole_lines (b ∷ bs) = if b == 10 then [] ∷ whole_lines bs else onto_whole b (whole_lines bs)

-- some byte is a line feed
abbrev pub has_line_feed : List ℕ → Bool
has_line_feed = list_any (λ b. b == 10)

-- no byte is a line feed
abbrev pub HasNoLineFeed : List ℕ → Type 0
HasNoLineFeed = AllByRecursion (λ b. b ≡ 10 → ⊥)

-- the bytes after the last line feed, all where there is none
abbrev pub unended : List ℕ → List ℕ
unended [] = []
unended (b ∷ bs) = if has_line_feed (b ∷ bs) then unended bs else b ∷ bs

-- the last line where no line feed ends it: none where nothing follows the last line feed
abbrev pub last_line : List ℕ → List (List ℕ)
last_line text = filter is_filled (unended text ∷ [])

-- the bytes of a line as they are kept: none once they are too many
abbrev pub kept_line : List ℕ → Option (List ℕ)
kept_line line = if nat_le (length line) LONGEST_LINE then Some line else None

-- more bytes of a line
abbrev pub longer : Option (List ℕ) → List ℕ → Option (List ℕ)
longer None more = None
longer (Some line) more = kept_line (line ++ more)

-- a piece was taken up to and with its first line feed, or whole where it has none
pub record IsPushed (old : Option (List ℕ)) (piece : List ℕ) (new : Option (List ℕ)) (pushed : Pushed) : Type 0 where
  pub line : List ℕ
  pub in_line : HasNoLineFeed line
  pub new_is : new ≡ longer old line
  pub taken : take pushed.used piece ≡ (if pushed.ended then line ++ 10 ∷ [] else line)
  pub bound : pushed.used ≤ length piece
  pub whole : pushed.ended ≡ false → pushed.used ≡ length piece

-- bytes follow a text, and end a line or end none; what is kept is the line that they end, or else the one that has not ended
abbrev pub KeepsOn : Bool → List ℕ → List ℕ → Option (List ℕ) → Type 0
KeepsOn true text more kept =
    (line : List ℕ) × (whole_lines (text ++ more) ≡ whole_lines text ++ line ∷ []) × (unended (text ++ more) ≡ []) × (kept ≡ kept_line line)
KeepsOn false text more kept = (whole_lines (text ++ more) ≡ whole_lines text) × (kept ≡ kept_line (unended (text ++ more)))

-- space, tab or carriage return
abbrev pub is_separator : ℕ → Bool
is_separator b = b == 32 || b == 9 || b == 13

-- a byte that may stand in no line
abbrev pub is_bad : ℕ → Bool
is_bad b = (nat_lt b 33 && not (is_separator b)) || b == 127

-- a byte that stands in no field: a separator or a bad one
abbrev pub is_stop : ℕ → Bool
is_stop b = is_separator b || is_bad b

-- a line that is passed over: it is not too long, and holds nothing but separators
abbrev pub is_blank : List ℕ → Bool
is_blank line = nat_le (length line) LONGEST_LINE && list_all is_separator line

-- the pieces between separators, empty ones too
abbrev pub pieces : List ℕ → List (List ℕ)
pieces [] = [] ∷ []
pieces (b ∷ bs) = if is_separator b then [] ∷ pieces bs else onto_first b (pieces bs)

-- the fields of a line: the pieces between separators that are not empty
abbrev pub fields_of : List ℕ → List (List ℕ)
fields_of line = filter is_filled (pieces line)

-- how many fields a line has, and where the first six of them stand
pub record AreFields (line : List ℕ) (count : ℕ) (places : List (ℕ × ℕ)) : Type 0 where
  pub number : count ≡ length (fields_of line)
  pub spans : map (λ p. slice_range line p.0 p.1) places ≡ take 6 (fields_of line)
  pub within : All (λ p. (p.0 < p.1) × (p.1 ≤ length line)) places
