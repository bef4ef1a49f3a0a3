-- What a qrels file says.
use Rattle.std.specs.Prelude.{◌≡◌, ◌≤◌, true, All, ℕ, ◌+◌, ◌<◌, Bool, ◌&&◌, not, ◌==◌, nat_lt, nat_le, List, [], ◌∷◌, if◌then◌else◌, Result, Ok, Err, length, map}
use Rattle.std.specs.List.{list_any, IsDistinct}
use Rattle.std.specs.Str.{bytes_eq}
use Rattle.desk_model.specs.Name.{is_name}
use Rattle.file_rows.specs.Reading.{and_then, rows_of}
use Rattle.file_rows.specs.Rows.{Row}
use Rattle.file_rows.specs.Grouped.{TopicRows, grouped, names_of, is_topic, rows_in, row_count, name_bytes_in}
use Rattle.file_rows.specs.declared.limits.TheConstants.{MOST_NAME_BYTES}
use Rattle.file_rows.specs.declared.fault.LineFault.{LineFault}
use Rattle.file_rows.specs.declared.fault.LineFault.TheVariants.{RepeatedDocument, TooManyTopics, TooManyRows, TooManyNameBytes}
use Rattle.file_rows.specs.declared.fault.FileFault.{FileFault}
use Rattle.file_rows.specs.declared.fault.FileFault.TheVariants.{NoTopics}
use Rattle.qrels_reader.specs.Rows.{read_row}
use Rattle.qrels_reader.specs.declared.limits.TheConstants.{MOST_TOPICS, MOST_QRELS_ROWS}

-- what the bytes of a qrels file say: its rows, grouped by their topics, or its first refusal
abbrev pub qrels_of : List ℕ → Result (List TopicRows) FileFault
qrels_of bytes = and_then (rows_of read_row bytes) (λ rows. if length rows == 0 then Err NoTopics else Ok (grouped rows))

-- the limits that a row would pass after the rows of these topics, in the order in which they are told
abbrev pub limits_after : List TopicRows → Row → List (Bool × LineFault)
limits_after topics row =
    (not (is_topic row.topic topics) && nat_le MOST_TOPICS (length topics), TooManyTopics)
    ∷ (nat_le MOST_QRELS_ROWS (row_count topics), TooManyRows)
    ∷ (nat_lt MOST_NAME_BYTES (name_bytes_in topics + length row.document), TooManyNameBytes)
    ∷ []

-- what is wrong with a row there: first, that its document is repeated
abbrev pub faults_after : List TopicRows → Row → List (Bool × LineFault)
faults_after topics row =
    (list_any (λ valued. bytes_eq row.document valued.document) (rows_in row.topic topics), RepeatedDocument) ∷ limits_after topics row

-- what holds of the topics of a file that was read: there is one at least, they and the documents of each have names that differ, and the
-- limits hold
pub record IsQrels (file : List TopicRows) : Type 0 where
  pub some_topic : 0 < length file
  pub named : All (λ name. is_name name ≡ true) (names_of file)
  pub distinct : IsDistinct bytes_eq (names_of file)
  pub documents : All (λ topic. All (λ valued. is_name valued.document ≡ true) topic.rows) file
  pub distinct_documents : All (λ topic. IsDistinct bytes_eq (map (λ valued. valued.document) topic.rows)) file
  pub topics : length file ≤ MOST_TOPICS
  pub rows : row_count file ≤ MOST_QRELS_ROWS
  pub name_bytes : name_bytes_in file ≤ MOST_NAME_BYTES
