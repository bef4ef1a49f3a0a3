-- What a reader of a sheet has read.
use Rattle.std.specs.Prelude.{◌≡◌, ◌⊎◌, ℕ, List, [], length, Option, Some, None, Result, Ok, Err}
use Rattle.file_rows.specs.Reading.{with_row}
use Rattle.sheet_merge.specs.Sheet.{SheetPlace, SheetRow, greatest_on}
use Rattle.sheet_merge.specs.Lines.{read_entry_line, entries_from}
use Rattle.sheet_merge.specs.declared.fault.SheetFault.{SheetFault}
use Rattle.sheet_merge.specs.declared.fault.SheetFault.TheVariants.{Memory}
use Rattle.sheet_merge.specs.declared.line.EntryText.{EntryText}
use Rattle.sheet_merge.specs.declared.entry_reader.EntryReader.{EntryReader}

-- the row that is said by the parts of a line
abbrev pub entry_said : EntryText → SheetRow
entry_said text = ((text.topic.now, text.document.now), record { stamp = text.stamp; who = text.who.now; grade = text.grade })

-- rows have of each place what some lines have of it
abbrev pub HaveGreatest : List SheetRow → List SheetRow → Type 0
HaveGreatest rows lines = (place : SheetPlace) → greatest_on place rows ≡ greatest_on place lines

-- a line was read after some rows: what is kept is the greatest of these rows and the line's, or the answer is the line's fault, or
-- memory ran out
abbrev pub ReadsEntry : ℕ → List SheetRow → List ℕ → Result (Unit {0}) SheetFault → List SheetRow → Type 0
ReadsEntry number rows line (Ok done) kept =
    (row : Option SheetRow) × (read_entry_line number rows line ≡ Ok row) × HaveGreatest kept (with_row rows row)
ReadsEntry number rows line (Err fault) kept = (fault ≡ Memory) ⊎ (read_entry_line number rows line ≡ Err fault)

-- lines were read, and none of them has a fault
pub record GathersEntries (reader : EntryReader) (lines : List (List ℕ)) : Type 0 where
  pub rows : List SheetRow
  pub read : entries_from 1 [] lines ≡ Ok rows
  pub so_far : HaveGreatest reader.table rows
  pub number : reader.lines ≡ length lines

-- lines were read; a fault that is kept is the first, unless memory ran out
abbrev pub HasReadEntries : Option SheetFault → EntryReader → List (List ℕ) → Type 0
HasReadEntries None reader lines = GathersEntries reader lines
HasReadEntries (Some fault) reader lines = (fault ≡ Memory) ⊎ (entries_from 1 [] lines ≡ Err fault)
