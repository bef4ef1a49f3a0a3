-- What a reader of a qrels file was fed.
use Rattle.std.specs.Prelude.{ℕ, List, is_some}
use Rattle.file_rows.specs.Pieces.{HasFed}
use Rattle.file_rows.specs.declared.pieces.Pieces.{Pieces}
use Rattle.qrels_reader.specs.declared.row_reader.RowReader.{RowReader}
use Rattle.qrels_reader.specs.Reader.{HasRead}

-- the lines of bytes were read, and the one that has not ended is kept
abbrev pub IsFed : Pieces RowReader → List ℕ → Type 0
IsFed pieces bytes = HasFed (λ (reader : RowReader). HasRead reader.fault reader) (λ (reader : RowReader). is_some reader.fault) pieces.reader pieces.unended bytes
