-- Which lines of its input a session answers, and how it ends.
use Rattle.std.specs.Prelude.{ℕ, nat_lt, Bool, true, false, List, [], ◌∷◌, length, take, if◌then◌else◌}
use Rattle.desk_text.specs.Lines.{lines, whole_lines}
use Rattle.desk_outside.specs.Inputs.{Input, Whole, Cut, bytes_in}
use Rattle.judge_session.specs.Request.{Heard, Asked, Quit, heard_of}
use Rattle.session_stream.specs.declared.stream.TheConstants.{LONGEST_INPUT}

-- how a session ends: its input was heard to its end or to `quit`; it was too long; it failed
pub data End : Type 0 where
  Done : End
  InputTooLong : End
  Failed : End

abbrev pub is_quit : Heard → Bool
is_quit (Asked Quit) = true
is_quit heard = false

-- the line `quit`, which ends a session
abbrev pub ends : List ℕ → Bool
ends line = is_quit (heard_of line)

-- one of the lines is `quit`
abbrev pub has_quit : List (List ℕ) → Bool
has_quit [] = false
has_quit (line ∷ more) = if ends line then true else has_quit more

-- the lines before the first `quit`
abbrev pub before_quit : List (List ℕ) → List (List ℕ)
before_quit [] = []
before_quit (line ∷ more) = if ends line then [] else line ∷ before_quit more

-- the lines of an input that are answered, and how the session ends
pub record Hearing : Type 0 where
  pub lines : List (List ℕ)
  pub end : End

-- an input within the limit, none of whose whole lines is `quit`: at its end the last line needs no line feed; where it fails, the whole lines are answered
abbrev pub heard_to_end : Input → Hearing
heard_to_end (Whole bytes) = record { lines = before_quit (lines bytes); end = Done }
heard_to_end (Cut bytes) = record { lines = whole_lines bytes; end = Failed }

-- the lines that end within the limit
abbrev pub ended_lines : Input → List (List ℕ)
ended_lines input = whole_lines (take LONGEST_INPUT (bytes_in input))

-- what a session hears of an input: up to `quit`, or to the limit, or all of it
abbrev pub hearing_of : Input → Hearing
hearing_of input =
    if has_quit (ended_lines input) then record { lines = before_quit (ended_lines input); end = Done }
    else if nat_lt LONGEST_INPUT (length (bytes_in input)) then record { lines = ended_lines input; end = InputTooLong }
    else heard_to_end input
