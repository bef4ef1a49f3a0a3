-- What a reader of a run file has read.
use Rattle.std.specs.Prelude.{◌≡◌, true, All, ◌⊎◌, ℕ, ◌+◌, ◌≤◌, List, [], length, Option, Some, None, unwrap_or, Result, Ok, Err, if◌then◌else◌}
use Rattle.desk_text.specs.Lines.{is_blank}
use Rattle.file_rows.specs.Reading.{read_line, with_row, rows_from, IsReadTo}
use Rattle.file_rows.specs.Rows.{Row}
use Rattle.file_rows.specs.Grouped.{TopicRows, grouped, names_of, is_topic, place_of, row_count, name_bytes_in}
use Rattle.file_rows.specs.declared.fault.FileFault.{FileFault}
use Rattle.file_rows.specs.declared.fault.FileFault.TheVariants.{Memory, NoTag}
use Rattle.file_rows.specs.declared.limits.TheConstants.{MOST_NAME_BYTES}
use Rattle.run_reader.specs.declared.limits.TheConstants.{MOST_RUN_ROWS}
use Rattle.run_reader.specs.declared.used.Used.{Used}
use Rattle.run_reader.specs.declared.line.RowText.{RowText}
use Rattle.run_reader.specs.declared.gathered.Gathered.{Gathered}
use Rattle.run_reader.specs.declared.row_reader.Beside.{Beside}
use Rattle.run_reader.specs.declared.row_reader.RowReader.{RowReader}
use Rattle.run_reader.specs.Rows.{tag_of, read_row}
use Rattle.run_reader.specs.Run.{Run, name_of}

-- the row that is said by the parts of a line
abbrev pub row_said : RowText → Row
row_said row = record { topic = row.topic.now; document = row.document.now; value = row.score }

-- the name that is given
abbrev pub given_in : Beside → Option (List ℕ)
given_in beside = beside.given

-- the name that is given, else the tag
abbrev pub given_or : Option (List ℕ) → Option (List ℕ) → Option (List ℕ)
given_or (Some name) tag = Some name
given_or None tag = tag

-- the name that the reader has
abbrev pub name_in : RowReader → Option (List ℕ)
name_in reader = given_or (given_in reader.beside) reader.tag

-- the place of the topic that was looked up last is known
abbrev pub IsTracked : Gathered → Type 0
IsTracked gathered = gathered.last ≡ place_of gathered.last_topic.items gathered.kept

-- the place of the topic that was looked up last is known, the topics stand in the qrels, and the limits hold
pub record IsSound (reader : RowReader) : Type 0 where
  pub tracked : IsTracked reader.gathered
  pub known : All (λ name. is_topic name reader.beside.qrels.now ≡ true) (names_of reader.gathered.kept)
  pub few : reader.beside.used.rows + row_count reader.gathered.kept ≤ MOST_RUN_ROWS
  pub small : reader.beside.used.name_bytes + name_bytes_in reader.gathered.kept ≤ MOST_NAME_BYTES

-- a line was read after some rows: the topics are those of these rows and the line's, or the answer is the line's fault, or memory ran out
abbrev pub ReadsLine : List TopicRows → Used → ℕ → List Row → List ℕ → Result (Unit {0}) FileFault → List TopicRows → Type 0
ReadsLine qrels used number rows line (Ok done) topics = (row : Option Row) × (read_line (read_row qrels used) number rows line ≡ Ok row) × (topics ≡ grouped (with_row rows row))
ReadsLine qrels used number rows line (Err fault) topics = (fault ≡ Memory) ⊎ (read_line (read_row qrels used) number rows line ≡ Err fault)

-- lines were read, and none of them has a fault
pub record Gathers (reader : RowReader) (lines : List (List ℕ)) : Type 0 where
  pub rows : List Row
  pub read : rows_from (read_row reader.beside.qrels.now reader.beside.used) 1 [] lines ≡ Ok rows
  pub so_far : reader.gathered.kept ≡ grouped rows
  pub number : reader.lines ≡ length lines
  pub name : name_in reader ≡ name_of (given_in reader.beside) lines

-- lines were read; a fault that is kept is the first, unless memory ran out
abbrev pub HasRead : Option FileFault → RowReader → List (List ℕ) → Type 0
HasRead fault reader = IsReadTo (read_row reader.beside.qrels.now reader.beside.used) (Gathers reader) fault

-- unless a fault is kept, more lines can be read
abbrev pub IsReady : Option FileFault → RowReader → Type 0
IsReady None reader = IsSound reader
IsReady (Some fault) reader = Unit {0}

-- the name after one more line
abbrev pub name_after : Option (List ℕ) → List ℕ → Option (List ℕ)
name_after name line = if is_blank line then name else Some (unwrap_or name (tag_of line))

-- what was used with topics
abbrev pub used_by : Used → List TopicRows → Used
used_by used topics = record { rows = used.rows + row_count topics; name_bytes = used.name_bytes + name_bytes_in topics }

-- the run of topics, if it has a name
abbrev pub run_with : Option (List ℕ) → Used → List TopicRows → Result Run FileFault
run_with None used topics = Err NoTag
run_with (Some name) used topics = Ok (record { name = name; topics = topics; used = used_by used topics })
