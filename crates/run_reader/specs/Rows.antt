-- The rows of a run file.
use Rattle.std.specs.Prelude.{ℕ, ◌+◌, Bool, ◌||◌, not, ◌==◌, List, [], ◌∷◌, if◌then◌else◌, Option, Some, None, Result, Ok, nat_lt, nat_le, length}
use Rattle.std.specs.List.{list_any}
use Rattle.std.specs.Result.{result_map_both}
use Rattle.desk_text.specs.Lines.{is_bad, fields_of}
use Rattle.desk_text.specs.declared.line.TheConstants.{LONGEST_LINE}
use Rattle.desk_text.specs.Reading.{score_of}
use Rattle.desk_text.specs.declared.score.ScoreFault.{ScoreFault}
use Rattle.desk_text.specs.declared.score.ScoreFault.TheVariants.{BadScore, ScoreTooLong, ScoreExponent}
use Rattle.file_rows.specs.Reading.{field, is_long, and_then, unless, checked}
use Rattle.file_rows.specs.Rows.{Row, rows_on, has_document, name_bytes_of}
use Rattle.file_rows.specs.Grouped.{TopicRows, is_topic}
use Rattle.file_rows.specs.declared.fault.LineFault.{LineFault}
use Rattle.file_rows.specs.declared.fault.LineFault.TheVariants as fault
use Rattle.file_rows.specs.declared.limits.TheConstants.{MOST_NAME_BYTES}
use Rattle.run_reader.specs.declared.limits.TheConstants.{MOST_RANKS, MOST_RUN_ROWS}
use Rattle.run_reader.specs.declared.used.Used.{Used}

-- what is wrong with a line whose score is not read
abbrev pub line_fault : ScoreFault → LineFault
line_fault BadScore = fault.BadScore
line_fault ScoreTooLong = fault.ScoreTooLong
line_fault ScoreExponent = fault.ScoreExponent

-- the row of a line of six fields: topic, one that is not used, document, one that is not used, score and tag
abbrev pub row_of : List ℕ → Result Row LineFault
row_of line = result_map_both (λ score. record { topic = field line 0; document = field line 2; value = score }) line_fault (score_of (field line 4))

-- the tag of a line
abbrev pub tag_of : List ℕ → List ℕ
tag_of line = field line 5

-- what is wrong with the form of a line before its score is looked at, in the order in which it is told
abbrev pub form_faults : List ℕ → List (Bool × LineFault)
form_faults line =
    (nat_lt LONGEST_LINE (length line), fault.LineTooLong)
    ∷ (list_any is_bad line, fault.BadByte)
    ∷ (not (length (fields_of line) == 6), fault.BadFieldCount)
    ∷ (is_long (field line 0) || (is_long (field line 2) || is_long (tag_of line)), fault.NameTooLong)
    ∷ []

-- the row of a line, or the first fault of its form
abbrev pub formed : List ℕ → Result Row LineFault
formed line = and_then (checked (form_faults line)) (λ done. row_of line)

-- what is wrong with a row after the kept rows before it and what earlier files used, in the order in which it is told
abbrev pub row_faults : Used → List Row → Row → List (Bool × LineFault)
row_faults used rows row =
    (has_document row.topic row.document rows, fault.RepeatedDocument)
    ∷ (nat_le MOST_RANKS (length (rows_on row.topic rows)), fault.TooDeep)
    ∷ (nat_le MOST_RUN_ROWS (used.rows + length rows), fault.TooManyRows)
    ∷ (nat_lt MOST_NAME_BYTES (used.name_bytes + name_bytes_of rows + length row.document), fault.TooManyNameBytes)
    ∷ []

-- the row of a line after the kept rows before it, or the line's first fault; a row on a topic that the qrels lack is dropped
abbrev pub read_row : List TopicRows → Used → List Row → List ℕ → Result (Option Row) LineFault
read_row qrels used rows line = and_then (formed line) (λ row. if is_topic row.topic qrels then unless (row_faults used rows row) (Some row) else Ok None)
