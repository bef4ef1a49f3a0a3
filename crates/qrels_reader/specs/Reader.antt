-- What a reader of a qrels file has read.
use Rattle.std.specs.Prelude.{◌≡◌, ◌⊎◌, ℕ, List, [], length, Option, Result, Ok, Err}
use Rattle.file_rows.specs.Reading.{read_line, with_row, rows_from, IsReadTo}
use Rattle.file_rows.specs.Rows.{Row}
use Rattle.file_rows.specs.Grouped.{TopicRows, grouped}
use Rattle.file_rows.specs.declared.fault.FileFault.{FileFault}
use Rattle.file_rows.specs.declared.fault.FileFault.TheVariants.{Memory}
use Rattle.qrels_reader.specs.Rows.{read_row}
use Rattle.qrels_reader.specs.declared.row_reader.RowReader.{RowReader}
use Rattle.qrels_reader.specs.declared.line.RowText.{RowText}

-- the row that is said by the parts of a line
abbrev pub row_said : RowText → Row
row_said row = record { topic = row.topic.now; document = row.document.now; value = row.grade }

-- a line was read after some rows: the topics are those of these rows and the line's, or the answer is the line's fault, or memory ran out
abbrev pub ReadsLine : ℕ → List Row → List ℕ → Result (Unit {0}) FileFault → List TopicRows → Type 0
ReadsLine number rows line (Ok done) topics = (row : Option Row) × (read_line read_row number rows line ≡ Ok row) × (topics ≡ grouped (with_row rows row))
ReadsLine number rows line (Err fault) topics = (fault ≡ Memory) ⊎ (read_line read_row number rows line ≡ Err fault)

-- lines were read, and none of them has a fault
pub record Gathers (reader : RowReader) (lines : List (List ℕ)) : Type 0 where
  pub rows : List Row
  pub read : rows_from read_row 1 [] lines ≡ Ok rows
  pub so_far : reader.groups ≡ grouped rows
  pub number : reader.lines ≡ length lines

-- lines were read; a fault that is kept is the first, unless memory ran out
abbrev pub HasRead : Option FileFault → RowReader → List (List ℕ) → Type 0
HasRead fault reader = IsReadTo read_row (Gathers reader) fault
