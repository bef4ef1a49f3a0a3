-- Lines after one that has a fault change nothing.
use Rattle.std.specs.Prelude.{◌≡◌, ℕ, ◌+◌, true, List, [], ◌∷◌, ◌++◌, Option, None, Some, Result, Ok, Err, is_some, is_ok}
use Rattle.std.proofs.Common.{true≢false, inl, inr, ap, sym}
use Rattle.file_rows.specs.Reading.{and_then, with_row}
use Rattle.sheet_merge.specs.Sheet.{SheetRow}
use Rattle.sheet_merge.specs.Lines.{read_entry_line, entries_from}
use Rattle.sheet_merge.specs.Reader.{HasReadEntries}
use Rattle.sheet_merge.specs.declared.fault.SheetFault.{SheetFault}
use Rattle.sheet_merge.specs.declared.entry_reader.EntryReader.{EntryReader}

-- a fault stays
pub refused_on : (number : ℕ) (rows : List SheetRow) (before after : List (List ℕ)) (fault : SheetFault) → entries_from number rows before ≡ Err fault → entries_from number rows (before ++ after) ≡ Err fault
refused_on number rows [] after fault e = absurd (true≢false (ap is_ok e))
refused_on number rows (line ∷ before) after fault e = by (λ row. refused_on (number + 1) (with_row rows row) before after fault) (read_entry_line number rows line) e
  where
    by : ((row : Option SheetRow) → entries_from (number + 1) (with_row rows row) before ≡ Err fault → entries_from (number + 1) (with_row rows row) (before ++ after) ≡ Err fault) → (row : Result (Option SheetRow) SheetFault)
        → and_then row (λ row. entries_from (number + 1) (with_row rows row) before) ≡ Err fault → and_then row (λ row. entries_from (number + 1) (with_row rows row) (before ++ after)) ≡ Err fault
    by rest (Ok row) e = rest row e
    by rest (Err other) e = e

-- a reader that has a fault has read what comes then
pub stays : (reader : EntryReader) (fault : Option SheetFault) (before more : List (List ℕ)) → is_some fault ≡ true → HasReadEntries fault reader before → HasReadEntries fault reader (before ++ more)
stays reader None before more e h = absurd (true≢false (sym e))
stays reader (Some fault) before more e (inl w) = inl w
stays reader (Some fault) before more e (inr w) = inr (refused_on 1 [] before more fault w)
