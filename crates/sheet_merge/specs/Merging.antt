-- Merging sheets.
use Rattle.std.specs.Prelude.{◌≡◌, ◌⊎◌, ℕ, ◌<◌, ◌≤◌, List, [], ◌∷◌, length, Option, None, Some}
use Rattle.std.specs.List.{Contains}
use Rattle.sheet_merge.specs.Sheet.{SheetPlace, SheetRow, IsMap, greater_of, greatest_on, greatest_by}

-- the merge of two maps: it has the places of both, and at each the greater entry
pub record IsMergeOf (a b : List SheetRow) (rows : List SheetRow) : Type 0 where
  pub is_map : IsMap rows
  pub greater : (place : SheetPlace) → greatest_on place rows ≡ greater_of (greatest_on place a) (greatest_on place b)

-- the merge of a list of maps
pub record IsMergeOfAll (sheets : List (List SheetRow)) (rows : List SheetRow) : Type 0 where
  pub is_map : IsMap rows
  pub greatest : (place : SheetPlace) → greatest_on place rows ≡ greatest_by (greatest_on place) sheets

-- what merging sheets one after the other into a map comes to: a map, or nothing where one of the merges has more places than there may be
abbrev pub MergesTo : ℕ → List SheetRow → List (List SheetRow) → Option (List SheetRow) → Type 0
MergesTo limit had [] (Some rows) = rows ≡ had
MergesTo limit had [] None = ⊥
MergesTo limit had (sheet ∷ sheets) result =
    (rows : List SheetRow) × IsMergeOf had sheet rows × (((length rows ≤ limit) × MergesTo limit rows sheets result) ⊎ ((limit < length rows) × (result ≡ None)))

-- each element of one list is in the other
abbrev pub AreIn : {X : Type 0} → List X → List X → Type 0
AreIn {X} xs ys = (x : X) → Contains xs x → Contains ys x

-- two lists have the same elements, in any order and any number of times
abbrev pub HaveSame : {X : Type 0} → List X → List X → Type 0
HaveSame xs ys = AreIn xs ys × AreIn ys xs
