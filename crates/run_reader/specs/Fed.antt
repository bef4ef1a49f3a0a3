-- What a reader of a run file was fed.
use Rattle.std.specs.Prelude.{◌≡◌, true, ℕ, List, Option, is_some, IfSome}
use Rattle.desk_model.specs.Name.{is_name}
use Rattle.file_rows.specs.Grouped.{TopicRows}
use Rattle.file_rows.specs.Pieces.{HasFed}
use Rattle.file_rows.specs.declared.pieces.Pieces.{Pieces}
use Rattle.run_reader.specs.declared.used.Used.{Used}
use Rattle.run_reader.specs.declared.row_reader.RowReader.{RowReader}
use Rattle.run_reader.specs.Reader.{HasRead, IsReady, given_in}

-- the bytes that a reader was fed, and what they are read beside: the name that is given, what earlier files used, and the qrels
pub record FedRun : Type 0 where
  pub fed : List ℕ
  pub given : Option (List ℕ)
  pub used : Used
  pub qrels : List TopicRows

abbrev pub fed_run : Pieces RowReader → List ℕ → FedRun
fed_run pieces bytes = record { fed = bytes; given = given_in pieces.reader.beside; used = pieces.reader.beside.used; qrels = pieces.reader.beside.qrels.now }

-- the lines of bytes were read, and the one that has not ended is kept
pub record IsFed (pieces : Pieces RowReader) (bytes : List ℕ) : Type 0 where
  pub fed : HasFed (λ (reader : RowReader). HasRead reader.fault reader) (λ (reader : RowReader). is_some reader.fault) pieces.reader pieces.unended bytes
  pub ready : IsReady pieces.reader.fault pieces.reader
  pub name : IfSome (given_in pieces.reader.beside) (λ n. is_name n ≡ true)
