-- Sheets of assessors as finite maps.
use Rattle.std.specs.Prelude.{◌≡◌, ℕ, ◌≤◌, ◌≤ℤ◌, true, All, length, List, [], ◌∷◌, map, if◌then◌else◌, Option, None, Some, ℤ}
use Rattle.std.specs.List.Sorted.{IsStrictlySortedBy}
use Rattle.std.specs.Ordering.{nat_cmp, int_cmp, ordering_then, is_lt, is_eq}
use Rattle.std.specs.declared.cmp.Ordering.{Ordering}
use Rattle.desk_model.specs.Name.{is_name, name_cmp}
use Rattle.sheet_merge.specs.declared.limits.TheConstants.{ENTRY_LIMIT, GREATEST_STAMP, LEAST_GRADE, GREATEST_GRADE}

-- what an assessor wrote of a document, and when
pub record SheetEntry : Type 0 where
  pub stamp : ℕ
  pub who : List ℕ
  pub grade : ℤ

-- entries are compared by stamp, then by assessor, then by grade
abbrev pub entry_cmp : SheetEntry → SheetEntry → Ordering
entry_cmp x y = ordering_then (nat_cmp x.stamp y.stamp) (ordering_then (name_cmp x.who y.who) (int_cmp x.grade y.grade))

-- the greater of two entries
abbrev pub greater : SheetEntry → SheetEntry → SheetEntry
greater x y = if is_lt (entry_cmp x y) then y else x

-- the greater of two, where there are any
abbrev pub greater_of : Option SheetEntry → Option SheetEntry → Option SheetEntry
greater_of None y = y
greater_of (Some x) None = Some x
greater_of (Some x) (Some y) = Some (greater x y)

-- the greatest of what the elements of a list have
abbrev pub greatest_by : {X : Type 0} → (X → Option SheetEntry) → List X → Option SheetEntry
greatest_by entry [] = None
greatest_by entry (x ∷ xs) = greater_of (entry x) (greatest_by entry xs)

-- a document of a topic
abbrev pub SheetPlace : Type 0
SheetPlace = List ℕ × List ℕ

-- places are compared by topic, then by document
abbrev pub place_cmp : SheetPlace → SheetPlace → Ordering
place_cmp p q = ordering_then (name_cmp p.0 q.0) (name_cmp p.1 q.1)

-- a line of a sheet: an entry of a place
abbrev pub SheetRow : Type 0
SheetRow = SheetPlace × SheetEntry

abbrev pub place_of : SheetRow → SheetPlace
place_of row = row.0

-- the entry of a line, where it is of this place
abbrev pub entry_on : SheetPlace → SheetRow → Option SheetEntry
entry_on place row = if is_eq (place_cmp place row.0) then Some row.1 else None

-- the greatest entry that lines have of a place
abbrev pub greatest_on : SheetPlace → List SheetRow → Option SheetEntry
greatest_on place rows = greatest_by (entry_on place) rows

-- a map: one line for each of its places, ascending by topic and then document
abbrev pub IsMap : List SheetRow → Type 0
IsMap rows = IsStrictlySortedBy place_cmp (map place_of rows)

-- a map that has exactly the places of some lines, each with the greatest entry that they have of it
pub record IsMapOf (lines : List SheetRow) (rows : List SheetRow) : Type 0 where
  pub is_map : IsMap rows
  pub greatest : (place : SheetPlace) → greatest_on place rows ≡ greatest_on place lines

-- a line put into a map: its entry stands at its place, unless a greater one stands there
abbrev pub raised : SheetRow → List SheetRow → List SheetRow
raised row [] = row ∷ []
raised row (x ∷ rows) =
    if is_lt (place_cmp row.0 x.0) then row ∷ x ∷ rows
    else if is_eq (place_cmp row.0 x.0) then (x.0, greater x.1 row.1) ∷ rows
    else x ∷ raised row rows

-- a map with the lines of another
abbrev pub merged : List SheetRow → List SheetRow → List SheetRow
merged rows [] = rows
merged rows (line ∷ lines) = raised line (merged rows lines)

-- the map of some lines
abbrev pub map_of : List SheetRow → List SheetRow
map_of lines = merged [] lines

-- a line in which the names are names, the stamp is from 1 to the greatest, and the grade lies within its bounds
pub record IsSheetRow (row : SheetRow) : Type 0 where
  pub topic : is_name row.0.0 ≡ true
  pub document : is_name row.0.1 ≡ true
  pub assessor : is_name row.1.who ≡ true
  pub first_stamp : 1 ≤ row.1.stamp
  pub last_stamp : row.1.stamp ≤ GREATEST_STAMP
  pub least : LEAST_GRADE ≤ℤ row.1.grade
  pub greatest : row.1.grade ≤ℤ GREATEST_GRADE

-- a map of such lines, of no more places than a sheet may have
pub record IsSheet (rows : List SheetRow) : Type 0 where
  pub is_map : IsMap rows
  pub few : length rows ≤ ENTRY_LIMIT
  pub right : All IsSheetRow rows
