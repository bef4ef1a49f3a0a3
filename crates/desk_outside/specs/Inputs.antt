-- An input as a call meets it.
use Rattle.std.specs.Prelude.{◌≡◌, List, ℕ, Option, IfSome}
use Rattle.std.specs.Io.KnownBytes.{prepend_known, IsAtEnd}
use Rattle.desk_outside.specs.Outside.{Rose}
use Rattle.desk_outside.specs.Seen.{Source}

-- these are all its bytes; or it gave these bytes, and no more can be had
pub data Input : Type 0 where
  Whole : (bytes : List ℕ) → Input
  Cut : (bytes : List ℕ) → Input

abbrev pub bytes_in : Input → List ℕ
bytes_in (Whole bytes) = bytes
bytes_in (Cut bytes) = bytes

-- the input of a call: all its bytes; or those that were taken, where it failed
abbrev pub IsInput : Source → Input → Type 0
IsInput input (Whole bytes) = IfSome input.rest (λ all. all ≡ bytes)
IsInput input (Cut bytes) = (input.rest ≡ prepend_known bytes input.left) × Rose input.before input.after

-- the input of a call, or a prefix of it
abbrev pub IsPart : Source → Input → Type 0
IsPart input (Whole bytes) = IfSome input.rest (λ all. all ≡ bytes)
IsPart input (Cut bytes) = (more : Option (List ℕ)) × (input.rest ≡ prepend_known bytes more)

-- what was taken of the input of a call: all of it, to its end, or some bytes
abbrev pub IsTaken : Source → Input → Type 0
IsTaken input (Whole bytes) = (input.rest ≡ prepend_known bytes input.left) × IsAtEnd input.left
IsTaken input (Cut bytes) = input.rest ≡ prepend_known bytes input.left
