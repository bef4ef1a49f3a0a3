-- What a reader of a sheet was fed.
use Rattle.std.specs.Prelude.{ℕ, List, is_some}
use Rattle.file_rows.specs.Pieces.{HasFed}
use Rattle.file_rows.specs.declared.pieces.Pieces.{Pieces}
use Rattle.sheet_merge.specs.declared.entry_reader.EntryReader.{EntryReader}
use Rattle.sheet_merge.specs.Reader.{HasReadEntries}

-- the lines of bytes were read, and the one that has not ended is kept
pub record IsSheetFed (pieces : Pieces EntryReader) (bytes : List ℕ) : Type 0 where
  pub fed : HasFed (λ (reader : EntryReader). HasReadEntries reader.fault reader) (λ (reader : EntryReader). is_some reader.fault) pieces.reader pieces.unended bytes
