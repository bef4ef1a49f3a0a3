-- The rows of a qrels file.
use Rattle.std.specs.Prelude.{ℕ, ◌+◌, Bool, ◌&&◌, ◌||◌, not, ◌==◌, List, [], ◌∷◌, Option, Some, is_none, unwrap_or, Result, nat_lt, nat_le, length, ℤ, pos}
use Rattle.std.specs.List.{list_any}
use Rattle.desk_text.specs.Lines.{is_bad, fields_of}
use Rattle.desk_text.specs.Numbers.{whole_of}
use Rattle.desk_text.specs.declared.line.TheConstants.{LONGEST_LINE}
use Rattle.file_rows.specs.Reading.{field, is_long, and_then, unless}
use Rattle.file_rows.specs.declared.fault.LineFault.{LineFault}
use Rattle.file_rows.specs.declared.fault.LineFault.TheVariants.{LineTooLong, BadByte, BadFieldCount, NameTooLong, BadGrade, RepeatedDocument, TooManyTopics, TooManyRows, TooManyNameBytes}
use Rattle.qrels_reader.specs.declared.limits.TheConstants.{MOST_TOPICS, MOST_QRELS_ROWS, LEAST_GRADE, GREATEST_GRADE}
use Rattle.file_rows.specs.declared.limits.TheConstants.{MOST_NAME_BYTES}
use Rattle.file_rows.specs.Rows.{Row, topics_of, has_topic, has_document, name_bytes_of}

-- the grade that a line gives, where it is one
abbrev pub grade_of : List ℕ → Option ℤ
grade_of line = whole_of LEAST_GRADE GREATEST_GRADE (field line 3)

-- the row of a line of four fields: topic, one that is not used, document and grade
abbrev pub row_of : List ℕ → Row
row_of line = record { topic = field line 0; document = field line 2; value = unwrap_or (grade_of line) (pos 0) }

-- what is wrong with the form of a line, in the order in which it is told
abbrev pub form_faults : List ℕ → List (Bool × LineFault)
form_faults line =
    (nat_lt LONGEST_LINE (length line), LineTooLong)
    ∷ (list_any is_bad line, BadByte)
    ∷ (not (length (fields_of line) == 4), BadFieldCount)
    ∷ (is_long (field line 0) || is_long (field line 2), NameTooLong)
    ∷ (is_none (grade_of line), BadGrade)
    ∷ []

-- what is wrong with a row after the rows before it, in the order in which it is told
abbrev pub row_faults : List Row → Row → List (Bool × LineFault)
row_faults rows row =
    (has_document row.topic row.document rows, RepeatedDocument)
    ∷ (not (has_topic row.topic rows) && nat_le MOST_TOPICS (length (topics_of rows)), TooManyTopics)
    ∷ (nat_le MOST_QRELS_ROWS (length rows), TooManyRows)
    ∷ (nat_lt MOST_NAME_BYTES (name_bytes_of rows + length row.document), TooManyNameBytes)
    ∷ []

-- the row of a line after the rows before it, or the line's first fault
abbrev pub read_row : List Row → List ℕ → Result (Option Row) LineFault
read_row rows line = and_then (unless (form_faults line) (row_of line)) (λ row. unless (row_faults rows row) (Some row))
