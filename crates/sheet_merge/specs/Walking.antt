-- Two maps that are walked together.
use Rattle.std.specs.Prelude.{◌≡◌, List, map}
use Rattle.std.specs.List.{AllByRecursion}
use Rattle.std.specs.declared.cmp.Ordering.TheVariants.{Less}
use Rattle.sheet_merge.specs.Sheet.{SheetPlace, SheetRow, place_of, place_cmp, entry_on, greatest_on, greater_of, IsMap}

-- a place is before each place of a map
abbrev pub IsBeforeAll : SheetPlace → List SheetRow → Type 0
IsBeforeAll place rows = AllByRecursion (λ q. place_cmp place q ≡ Less) (map place_of rows)

-- the next line of two maps, and what they then have left: it is before all that is left, and with it they are as they were
pub record IsTakenNext (a b : List SheetRow) (row : SheetRow) (left right : List SheetRow) : Type 0 where
  pub before_left : IsBeforeAll row.0 left
  pub before_right : IsBeforeAll row.0 right
  pub later : (place : SheetPlace) → IsBeforeAll place a → IsBeforeAll place b → place_cmp place row.0 ≡ Less
  pub kept_left : (place : SheetPlace) → IsBeforeAll place a → IsBeforeAll place left
  pub kept_right : (place : SheetPlace) → IsBeforeAll place b → IsBeforeAll place right
  pub is_left : IsMap left
  pub is_right : IsMap right
  pub entries : (place : SheetPlace) → greater_of (entry_on place row) (greater_of (greatest_on place left) (greatest_on place right)) ≡ greater_of (greatest_on place a) (greatest_on place b)
