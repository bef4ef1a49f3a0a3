-- A run: its name, and its kept rows, grouped by their topics.
use Rattle.std.specs.Prelude.{◌≡◌, ◌≤◌, true, All, ℕ, ◌+◌, Bool, not, nat_lt, nat_le, List, [], ◌∷◌, Option, Some, None, option_map, find, Result, Ok, Err, length, map}
use Rattle.std.specs.List.{list_any, IsDistinct}
use Rattle.std.specs.Str.{bytes_eq}
use Rattle.desk_model.specs.Name.{is_name}
use Rattle.desk_text.specs.Lines.{lines, is_blank}
use Rattle.file_rows.specs.Reading.{and_then, rows_of}
use Rattle.file_rows.specs.Rows.{Row, name_bytes_of}
use Rattle.file_rows.specs.Grouped.{Valued, TopicRows, grouped, names_of, rows_in, row_count, name_bytes_in}
use Rattle.file_rows.specs.declared.fault.LineFault.{LineFault}
use Rattle.file_rows.specs.declared.fault.LineFault.TheVariants.{RepeatedDocument, TooDeep, TooManyRows, TooManyNameBytes}
use Rattle.file_rows.specs.declared.fault.FileFault.{FileFault}
use Rattle.file_rows.specs.declared.fault.FileFault.TheVariants.{NoTag}
use Rattle.file_rows.specs.declared.limits.TheConstants.{MOST_NAME_BYTES}
use Rattle.run_reader.specs.declared.limits.TheConstants.{MOST_RANKS, MOST_RUN_ROWS}
use Rattle.run_reader.specs.declared.used.Used.{Used}
use Rattle.run_reader.specs.Rows.{tag_of, read_row}

-- a run: its name, its topics in the order in which they first stand, and what this and the earlier files used
pub record Run : Type 0 where
  pub name : List ℕ
  pub topics : List TopicRows
  pub used : Used

-- what was used is within the limits
pub record IsWithinLimits (used : Used) : Type 0 where
  pub rows : used.rows ≤ MOST_RUN_ROWS
  pub name_bytes : used.name_bytes ≤ MOST_NAME_BYTES

-- the name of a run: the one that is given, else the tag of the first line that is not blank
abbrev pub name_of : Option (List ℕ) → List (List ℕ) → Option (List ℕ)
name_of (Some given) ls = Some given
name_of None ls = option_map tag_of (find (λ line. not (is_blank line)) ls)

-- what was used with the rows
abbrev pub used_with : Used → List Row → Used
used_with used rows = record { rows = used.rows + length rows; name_bytes = used.name_bytes + name_bytes_of rows }

-- the run of rows, if it has a name
abbrev pub named : Option (List ℕ) → Used → List Row → Result Run FileFault
named None used rows = Err NoTag
named (Some name) used rows = Ok (record { name = name; topics = grouped rows; used = used_with used rows })

-- what the bytes of a run file say, beside the qrels and what earlier files used: its run, or its first refusal
abbrev pub run_of : Option (List ℕ) → List TopicRows → Used → List ℕ → Result Run FileFault
run_of given qrels used bytes = and_then (rows_of (read_row qrels used) bytes) (named (name_of given (lines bytes)) used)

-- what holds of the topics of a run that was read: they and the documents of each have names that differ, and no topic has too many rows
pub record IsRun (topics : List TopicRows) : Type 0 where
  pub named : All (λ name. is_name name ≡ true) (names_of topics)
  pub distinct : IsDistinct bytes_eq (names_of topics)
  pub documents : All (λ topic. All (λ valued. is_name valued.document ≡ true) topic.rows) topics
  pub distinct_documents : All (λ topic. IsDistinct bytes_eq (map (λ valued. valued.document) topic.rows)) topics
  pub depth : All (λ topic. length topic.rows ≤ MOST_RANKS) topics

-- the rows of a run on a topic, none where it has none
abbrev pub rows_on_topic : Run → List ℕ → List Valued
rows_on_topic run topic = rows_in topic run.topics

-- the limits that a row would pass after the rows of these topics and what earlier files used, in the order in which they are told
abbrev pub limits_after : Used → List TopicRows → Row → List (Bool × LineFault)
limits_after used topics row =
    (nat_le MOST_RANKS (length (rows_in row.topic topics)), TooDeep)
    ∷ (nat_le MOST_RUN_ROWS (used.rows + row_count topics), TooManyRows)
    ∷ (nat_lt MOST_NAME_BYTES (used.name_bytes + name_bytes_in topics + length row.document), TooManyNameBytes)
    ∷ []

-- what is wrong with a row there: first, that its document is repeated
abbrev pub faults_after : Used → List TopicRows → Row → List (Bool × LineFault)
faults_after used topics row =
    (list_any (λ valued. bytes_eq row.document valued.document) (rows_in row.topic topics), RepeatedDocument) ∷ limits_after used topics row
