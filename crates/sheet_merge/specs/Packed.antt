-- Rows of a sheet as bytes: two names are packed into one, and so are an assessor and a place.
use Rattle.std.specs.Prelude.{◌≡◌, ◌≤◌, ℕ, List, [], ◌∷◌, ◌++◌, length, map, take, drop, slice_index_or, pos}
use Rattle.std.specs.List.{AllByRecursion, zip}
use Rattle.sheet_merge.specs.Sheet.{SheetEntry, SheetPlace, SheetRow}
use Rattle.sheet_merge.specs.declared.written.Written.{Written}

-- two names in one: the length of the first, the first, and the second
abbrev pub pair_of : List ℕ → List ℕ → List ℕ
pair_of first second = length first ∷ first ++ second

-- the first of two names
abbrev pub first_of : List ℕ → List ℕ
first_of [] = []
first_of (n ∷ bytes) = take n bytes

-- the second of two names
abbrev pub second_of : List ℕ → List ℕ
second_of [] = []
second_of (n ∷ bytes) = drop n bytes

-- bytes are two names in one
abbrev pub IsNamePair : List ℕ → Type 0
IsNamePair [] = ⊥
IsNamePair (n ∷ bytes) = n ≤ length bytes

-- the place that a topic and a document in one are
abbrev pub place_from : List ℕ → SheetPlace
place_from bytes = (first_of bytes, second_of bytes)

-- rows by their places and their entries
abbrev pub placed_entries : List (List ℕ) → List SheetEntry → List SheetRow
placed_entries places entries = map (λ pair. (place_from pair.0, pair.1)) (zip places entries)

-- the row of an assessor and a place in one, with a stamp and a grade
abbrev pub row_from : List ℕ × Written → SheetRow
row_from pair =
    (place_from (second_of pair.0), record { stamp = pair.1.stamp; who = first_of pair.0; grade = pair.1.grade })

-- rows by the names of each in one, with stamps and grades
abbrev pub unpacked : List (List ℕ) → List Written → List SheetRow
unpacked names written = map row_from (zip names written)

-- the bytes are an assessor and a place in one, none of whose names is long
pub record IsPacked (bytes : List ℕ) : Type 0 where
  pub outer : IsNamePair bytes
  pub inner : IsNamePair (second_of bytes)
  pub short : length bytes ≤ 767

-- a row that stands nowhere
abbrev pub no_row : SheetRow
no_row = (([], []), record { stamp = 0; who = []; grade = pos 0 })

-- a row by its number from 0
abbrev pub row_at : List SheetRow → ℕ → SheetRow
row_at rows i = slice_index_or rows i no_row

-- the names and what was written of them are kept apart
pub record ArePacked (names : List (List ℕ)) (written : List Written) : Type 0 where
  pub matched : length names ≡ length written
  pub packed : AllByRecursion IsPacked names
