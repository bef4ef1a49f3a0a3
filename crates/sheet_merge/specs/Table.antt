-- Rows with different places, in the order in which these first came.
use Rattle.std.specs.Prelude.{◌≡◌, ◌≤◌, Bool, List, [], ◌∷◌, if◌then◌else◌, length, map, ℕ, All}
use Rattle.std.specs.List.{AllByRecursion, IsDistinct}
use Rattle.std.specs.Ordering.{is_eq}
use Rattle.sheet_merge.specs.Sheet.{SheetEntry, SheetPlace, SheetRow, IsSheetRow, place_of, place_cmp, greater}
use Rattle.sheet_merge.specs.Packed.{IsNamePair, placed_entries}
use Rattle.sheet_merge.specs.declared.limits.TheConstants.{ENTRY_LIMIT}

-- rows with one more: where a row of its place stands, the greater entry stands then, and else it comes at the end
abbrev pub with_entry : SheetRow → List SheetRow → List SheetRow
with_entry row [] = row ∷ []
with_entry row (x ∷ rows) =
    if is_eq (place_cmp row.0 x.0) then (x.0, greater x.1 row.1) ∷ rows else x ∷ with_entry row rows

abbrev pub is_same_place : SheetPlace → SheetPlace → Bool
is_same_place p q = is_eq (place_cmp p q)

-- no two rows have one place
abbrev pub HaveOwnPlaces : List SheetRow → Type 0
HaveOwnPlaces rows = IsDistinct is_same_place (map place_of rows)

-- rows with different places, as many as a sheet may have, each right
pub record AreGathered (rows : List SheetRow) : Type 0 where
  pub apart : HaveOwnPlaces rows
  pub few : length rows ≤ ENTRY_LIMIT
  pub right : All IsSheetRow rows

-- places and entries that are kept apart are such rows
pub record IsTable (places : List (List ℕ)) (entries : List SheetEntry) : Type 0 where
  pub matched : length places ≡ length entries
  pub pairs : AllByRecursion IsNamePair places
  pub gathered : AreGathered (placed_entries places entries)
