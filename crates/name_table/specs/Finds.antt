-- What a table finds.
use Rattle.std.specs.Prelude.{◌≡◌, ℕ, ◌+◌, ◌-◌, ◌<◌, ◌≤◌, ◌⊎◌, List, length, map, position, Some, None}
use Rattle.std.specs.Str.{bytes_eq}
use Rattle.name_table.specs.declared.table.NameTable.{NameTable}
use Rattle.name_table.specs.declared.table.SearchEnd.{SearchEnd}
use Rattle.name_table.specs.declared.table.SearchEnd.TheVariants.{Found, Vacant, Beyond}
use Rattle.name_table.specs.declared.table.Slot.{Slot}
use Rattle.name_table.specs.declared.table.TheConstants.{REACH}
use Rattle.name_table.specs.Table.{hash_of, number_in, name_at, AreDifferent, number_at, hash_at, start_of, AreTaken, IsFree, Stands, StandsByName}

-- slots and numbers by name find the first names of a list, so many, and nothing else
pub record FindsIn (names : List (List ℕ)) (count : ℕ) (slots : List Slot) (rest : List (List ℕ × ℕ)) : Type 0 where
  pub different : AreDifferent names
  pub room : 0 < count → REACH < length slots
  pub found : (i : ℕ) → i < count
      → ((at : ℕ) × Stands slots (hash_of (name_at names i)) (i + 1) at)
      ⊎ StandsByName slots rest (hash_of (name_at names i)) (name_at names i) i
  pub in_slots : (at : ℕ) → 0 < number_at slots at
      → (number_at slots at ≤ count) × (hash_at slots at ≡ hash_of (name_at names (number_at slots at - 1)))
  pub by_name : (name : List ℕ) (i : ℕ) → number_in name rest ≡ Some i → (i < count) × (name_at names i ≡ name)

-- a table finds the first names of a list, so many, and nothing else
abbrev pub Finds : List (List ℕ) → ℕ → NameTable → Type 0
Finds names count table = FindsIn names count table.slots.items table.rest

-- a table finds all names of a list, and nothing else
abbrev pub FindsAll : List (List ℕ) → NameTable → Type 0
FindsAll names table = Finds names (length names) table

-- a table finds all names of a list, whose hashes stand beside it
pub record AreFound (names : List (List ℕ)) (hashes : List ℕ) (table : NameTable) : Type 0 where
  pub finds : FindsAll names table
  pub hashed : hashes ≡ map hash_of names

-- what the end of a search through the slots within reach says of a name: its number, the empty slot where it would stand, or that the slots
-- are all taken and its number stands by name, if anywhere
abbrev pub IsEndOf : List (List ℕ) → NameTable → List ℕ → SearchEnd → Type 0
IsEndOf names table name (Found i) = position (bytes_eq name) names ≡ Some i
IsEndOf names table name (Vacant at) = IsFree table.slots.items (hash_of name) at × (position (bytes_eq name) names ≡ None)
IsEndOf names table name Beyond =
    AreTaken table.slots.items (start_of table.slots.items (hash_of name)) (start_of table.slots.items (hash_of name) + REACH)
    × (number_in name table.rest ≡ position (bytes_eq name) names)
