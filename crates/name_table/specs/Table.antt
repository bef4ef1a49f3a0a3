-- Where the numbers of names stand in slots.
use Rattle.std.specs.Prelude.{◌≡◌, ℕ, ◌+◌, ◌-◌, ◌<◌, ◌≤◌, List, [], ◌∷◌, length, Option, Some, None, if◌then◌else◌, slice_index_or, bit_and}
use Rattle.std.specs.Hash.FoldHasher as folding
use Rattle.std.specs.Str.{bytes_eq}
use Rattle.name_table.specs.declared.table.Slot.{Slot}
use Rattle.name_table.specs.declared.table.TheConstants.{REACH}

-- the lower half of std's hash of a name
unfoldable pub hash_of : List ℕ → ℕ
hash_of name = bit_and (folding.finish (folding.write folding.initial name)) 0xFFFF_FFFF

-- the number of a name in a list of names with numbers, that of the first where it stands more than once
abbrev pub number_in : List ℕ → List (List ℕ × ℕ) → Option ℕ
number_in name [] = None
number_in name (entry ∷ entries) = if bytes_eq name entry.0 then Some entry.1 else number_in name entries

-- name i
abbrev pub name_at : List (List ℕ) → ℕ → List ℕ
name_at names i = slice_index_or names i []

-- no name stands twice
abbrev pub AreDifferent : List (List ℕ) → Type 0
AreDifferent names = (i j : ℕ) → i < length names → j < length names → name_at names i ≡ name_at names j → i ≡ j

abbrev pub empty_slot : Slot
empty_slot = record { hash = 0; number = 0 }

-- the number that stands in a slot, 0 where it is empty
abbrev pub number_at : List Slot → ℕ → ℕ
number_at slots at = (slice_index_or slots at empty_slot).number

-- the hash that stands in a slot
abbrev pub hash_at : List Slot → ℕ → ℕ
hash_at slots at = (slice_index_or slots at empty_slot).hash

-- the first slot where a name of this hash may stand
unfoldable pub start_of : List Slot → ℕ → ℕ
start_of slots hash = bit_and hash (length slots - REACH - 1)

-- no slot from start up to end is empty
abbrev pub AreTaken : List Slot → ℕ → ℕ → Type 0
AreTaken slots start end = (at : ℕ) → start ≤ at → at < end → 0 < number_at slots at

-- a slot is the first empty one where a name of this hash may stand
pub record IsFree (slots : List Slot) (hash at : ℕ) : Type 0 where
  pub from : start_of slots hash ≤ at
  pub below : at < start_of slots hash + REACH
  pub within : at < length slots
  pub empty : number_at slots at ≡ 0
  pub taken : AreTaken slots (start_of slots hash) at

-- a slot within reach has the number, and those before it are taken
pub record Stands (slots : List Slot) (hash number at : ℕ) : Type 0 where
  pub from : start_of slots hash ≤ at
  pub below : at < start_of slots hash + REACH
  pub holds : number_at slots at ≡ number
  pub taken : AreTaken slots (start_of slots hash) at

-- all slots within reach are taken, and the number stands by name
pub record StandsByName (slots : List Slot) (rest : List (List ℕ × ℕ)) (hash : ℕ) (name : List ℕ) (i : ℕ) : Type 0 where
  pub taken : AreTaken slots (start_of slots hash) (start_of slots hash + REACH)
  pub kept : number_in name rest ≡ Some i
