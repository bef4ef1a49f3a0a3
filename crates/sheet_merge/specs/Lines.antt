-- The lines of a sheet: what each says, and the sheet that they make.
use Rattle.std.specs.Prelude.{◌≡◌, ◌⊎◌, ℕ, ◌+◌, Bool, ◌&&◌, ◌||◌, not, ◌==◌, List, [], ◌∷◌, if◌then◌else◌, Option, None, Some, is_none, unwrap_or, Result, Ok, Err, nat_lt, nat_le, length, ℤ, pos}
use Rattle.std.specs.List.{list_any}
use Rattle.std.specs.Result.{result_map_both}
use Rattle.desk_text.specs.Lines.{lines, is_bad, is_blank, fields_of}
use Rattle.desk_text.specs.Numbers.{plain_of, whole_of}
use Rattle.desk_text.specs.declared.line.TheConstants.{LONGEST_LINE}
use Rattle.file_rows.specs.Reading.{field, is_long, and_then, unless, with_row}
use Rattle.sheet_merge.specs.Sheet.{SheetPlace, SheetRow, greatest_on, map_of}
use Rattle.sheet_merge.specs.declared.limits.TheConstants.{ENTRY_LIMIT, GREATEST_STAMP, LEAST_GRADE, GREATEST_GRADE}
use Rattle.sheet_merge.specs.declared.fault.SheetLineFault.{SheetLineFault}
use Rattle.sheet_merge.specs.declared.fault.SheetLineFault.TheVariants.{LineTooLong, BadByte, BadFieldCount, BadStamp, NameTooLong, BadGrade, TooManyEntries}
use Rattle.sheet_merge.specs.declared.fault.SheetFault.{SheetFault}
use Rattle.sheet_merge.specs.declared.fault.SheetFault.TheVariants.{Line, Memory}

-- the stamp that a text is, where it is one: digits without a leading zero, from 1 to the greatest stamp
abbrev pub stamp_of : List ℕ → Option ℕ
stamp_of text = if nat_le 1 (unwrap_or (plain_of GREATEST_STAMP text) 0) then plain_of GREATEST_STAMP text else None

-- the grade that a text is, where it is one
abbrev pub sheet_grade_of : List ℕ → Option ℤ
sheet_grade_of text = whole_of LEAST_GRADE GREATEST_GRADE text

-- the row of a line of five fields: stamp, assessor, topic, document and grade
abbrev pub entry_of : List ℕ → SheetRow
entry_of line = (
  (field line 2, field line 3),
  record {
    stamp = unwrap_or (stamp_of (field line 0)) 0;
    who = field line 1;
    grade = unwrap_or (sheet_grade_of (field line 4)) (pos 0);
  },
)

-- what is wrong with the form of a line, in the order in which it is told
abbrev pub entry_faults : List ℕ → List (Bool × SheetLineFault)
entry_faults line =
    (nat_lt LONGEST_LINE (length line), LineTooLong)
    ∷ (list_any is_bad line, BadByte)
    ∷ (not (length (fields_of line) == 5), BadFieldCount)
    ∷ (is_none (stamp_of (field line 0)), BadStamp)
    ∷ (is_long (field line 1) || (is_long (field line 2) || is_long (field line 3)), NameTooLong)
    ∷ (is_none (sheet_grade_of (field line 4)), BadGrade)
    ∷ []

-- whether a place is not among those of the rows before it, and these have as many places as a sheet may have
abbrev pub brings_too_many : SheetPlace → List SheetRow → Bool
brings_too_many place rows = is_none (greatest_on place rows) && nat_le ENTRY_LIMIT (length (map_of rows))

-- the row of a line after the rows before it, or the line's first fault
abbrev pub read_entry : List SheetRow → List ℕ → Result SheetRow SheetLineFault
read_entry rows line =
    and_then (unless (entry_faults line) (entry_of line)) (λ row. unless ((brings_too_many row.0 rows, TooManyEntries) ∷ []) row)

-- what a line gives after the rows before it: nothing where it is blank, else its row or its first fault with its number
abbrev pub read_entry_line : ℕ → List SheetRow → List ℕ → Result (Option SheetRow) SheetFault
read_entry_line number rows line = if is_blank line then Ok None else result_map_both Some (Line number) (read_entry rows line)

-- the rows before some lines and the rows of these lines, which are numbered on from a number; or the first fault
abbrev pub entries_from : ℕ → List SheetRow → List (List ℕ) → Result (List SheetRow) SheetFault
entries_from number rows [] = Ok rows
entries_from number rows (line ∷ rest) =
    and_then (read_entry_line number rows line) (λ row. entries_from (number + 1) (with_row rows row) rest)

-- the sheet that a text is: the map of its lines, which are numbered from 1, or the first fault
abbrev pub sheet_of : List ℕ → Result (List SheetRow) SheetFault
sheet_of bytes = and_then (entries_from 1 [] (lines bytes)) (λ rows. Ok (map_of rows))

-- the answer is the one that is wanted, or memory ran out
abbrev pub IsSheetUnlessMemory : {A : Type 0} → Result A SheetFault → Result A SheetFault → Type 0
IsSheetUnlessMemory answer wanted = (answer ≡ Err Memory) ⊎ (answer ≡ wanted)
