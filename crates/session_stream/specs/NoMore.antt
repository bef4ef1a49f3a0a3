-- What a session reads of its input: no more than it hears.
use Rattle.std.specs.Prelude.{◌≡◌, ◌⊎◌, ℕ, ◌≤◌, false, List, [], ◌∷◌, ◌++◌, length, Option}
use Rattle.std.specs.Io.KnownBytes.{prepend_known}
use Rattle.desk_outside.specs.Calls.{GiveInAll}
use Rattle.desk_outside.specs.Seen.{Source, IsUntouched}
use Rattle.desk_outside.specs.declared.log.ReadCall.{ReadCall}
use Rattle.desk_text.specs.Lines.{whole_lines}
use Rattle.session_stream.specs.Hearing.{has_quit}
use Rattle.session_stream.specs.declared.stream.TheConstants.{LONGEST_INPUT}

-- reads that each gave some bytes, and one more: the bytes before the last read are within the limit, and none of their lines is `quit`
pub record ReadsOn (input : Source) : Type 0 where
  pub reads : List ReadCall
  pub last : ReadCall
  pub made : input.has ≡ input.had ++ (reads ++ last ∷ [])
  pub bytes : List ℕ
  pub rest : Option (List ℕ)
  pub taken : input.rest ≡ prepend_known bytes rest
  pub given : GiveInAll reads (length bytes)
  pub within : length bytes ≤ LONGEST_INPUT
  pub no_quit : has_quit (whole_lines bytes) ≡ false

-- nothing was read after the line `quit`, after the end, after a failure or after the limit
abbrev pub ReadsNoMore : Source → Type 0
ReadsNoMore input = IsUntouched input ⊎ ReadsOn input
