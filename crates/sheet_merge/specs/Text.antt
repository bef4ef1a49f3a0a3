-- The text of a sheet.
use Rattle.std.specs.Prelude.{ℕ, List, [], ◌∷◌, ◌++◌, decimal, flat_map}
use Rattle.std.specs.Fmt.{signed_decimal}
use Rattle.sheet_merge.specs.Sheet.{SheetRow}

-- a row as text: stamp, assessor, topic, document and grade, with a space between them
abbrev pub entry_text : SheetRow → List ℕ
entry_text row =
    decimal row.1.stamp ++ 32 ∷ (row.1.who ++ 32 ∷ (row.0.0 ++ 32 ∷ (row.0.1 ++ 32 ∷ signed_decimal row.1.grade)))

-- a line for each row, in their order
abbrev pub sheet_text : List SheetRow → List ℕ
sheet_text rows = flat_map (λ row. entry_text row ++ 10 ∷ []) rows
