-- What a line of a session asks.
use Rattle.std.specs.Prelude.{ℕ, Bool, nat_lt, ◌&&◌, List, [], ◌∷◌, length, if◌then◌else◌, Option, None, Some, option_map, codes, ℤ, pos, negsuc}
use Rattle.std.specs.List.{list_any}
use Rattle.std.specs.Str.{bytes_eq}
use Rattle.desk_text.specs.Lines.{is_blank, is_bad, fields_of}
use Rattle.desk_text.specs.Numbers.{plain_of, whole_of}
use Rattle.desk_text.specs.declared.line.TheConstants.{LONGEST_LINE}
use Rattle.desk_model.specs.Name.{is_name}

-- names are those of callers, topics, documents and runs; grades are from -1,000 to 1,000, depths from 1 to 10,000
pub data Request : Type 0 where
  Judge : (who topic doc : List ℕ) (grade : ℤ) → Request
  Undo : (who : List ℕ) → Request
  Redo : (who : List ℕ) → Request
  Table : Request
  Pair : (first second : List ℕ) → Request
  Certify : (first second : List ℕ) → Request
  Pool : (topic : List ℕ) (depth : ℕ) → Request
  Next : Request
  Qrels : Request
  Quit : Request

-- a line as a session hears it
pub data Heard : Type 0 where
  Blank : Heard
  TooLong : Heard
  Bad : Heard
  Asked : Request → Heard

-- a request, where it holds only names
abbrev pub named : Bool → Request → Option Request
named names request = if names then Some request else None

-- `table`, `next`, `qrels` or `quit`
abbrev pub alone : List ℕ → Option Request
alone word =
    if bytes_eq word (codes "table") then Some Table
    else if bytes_eq word (codes "next") then Some Next
    else if bytes_eq word (codes "qrels") then Some Qrels
    else if bytes_eq word (codes "quit") then Some Quit
    else None

-- `undo WHO` or `redo WHO`
abbrev pub with_caller : List ℕ → List ℕ → Option Request
with_caller word who =
    if bytes_eq word (codes "undo") then named (is_name who) (Undo who)
    else if bytes_eq word (codes "redo") then named (is_name who) (Redo who)
    else None

-- a depth in digits with no leading zero, from 1 to 10,000
abbrev pub depth_of : List ℕ → Option ℕ
depth_of text = if bytes_eq text (codes "0") then None else plain_of 10000 text

-- `pair FIRST SECOND`, `certify FIRST SECOND` or `pool TOPIC DEPTH`
abbrev pub with_two : List ℕ → List ℕ → List ℕ → Option Request
with_two word first second =
    if bytes_eq word (codes "pair") then named (is_name first && is_name second) (Pair first second)
    else if bytes_eq word (codes "certify") then named (is_name first && is_name second) (Certify first second)
    else if bytes_eq word (codes "pool") then (if is_name first then option_map (λ depth. Pool first depth) (depth_of second) else None)
    else None

-- `judge WHO TOPIC DOC GRADE`, the grade with an optional sign
abbrev pub judging : List ℕ → List ℕ → List ℕ → List ℕ → List ℕ → Option Request
judging word who topic doc grade =
    if bytes_eq word (codes "judge") && (is_name who && (is_name topic && is_name doc)) then option_map (λ value. Judge who topic doc value) (whole_of (negsuc 999) (pos 1000) grade) else None

-- what fields ask
abbrev pub request_of : List (List ℕ) → Option Request
request_of (word ∷ []) = alone word
request_of (word ∷ who ∷ []) = with_caller word who
request_of (word ∷ first ∷ second ∷ []) = with_two word first second
request_of (word ∷ who ∷ topic ∷ doc ∷ grade ∷ []) = judging word who topic doc grade
request_of fields = None

abbrev pub heard_request : Option Request → Heard
heard_request None = Bad
heard_request (Some request) = Asked request

-- what a session hears in a line: it is too long, or blank, or asks something, or is none of its lines
abbrev pub heard_of : List ℕ → Heard
heard_of line =
    if nat_lt LONGEST_LINE (length line) then TooLong
    else if is_blank line then Blank
    else if list_any is_bad line then Bad
    else heard_request (request_of (fields_of line))
