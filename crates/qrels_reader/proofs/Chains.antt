-- Faults that are looked for one after the other.
use Rattle.std.proofs.Common.{◌≡◌, ℕ, ◌+◌, List, [], ◌∷◌, length, false, cond, ap, sym, ◌∙◌, ◌⊎◌}
use Rattle.std.specs.Prelude.{Bool, not, ◌||◌, ◌&&◌, ◌==◌, Some, None, is_none, Result, Ok, Err, OnOk, IfErr, nat_lt, nat_le}
use Rattle.std.specs.List.{list_any, list_all}
use Rattle.std.specs.Result.{result_map_both}
use Rattle.std.proofs.lemmas.Bool.{lt-ltb, lt-leb}
use Rattle.desk_text.specs.Lines.{is_bad, is_blank, is_separator, fields_of}
use Rattle.desk_text.specs.declared.line.TheConstants.{LONGEST_LINE}
use Rattle.file_rows.specs.declared.fault.LineFault.{LineFault}
use Rattle.file_rows.specs.declared.fault.LineFault.TheVariants.{LineTooLong, BadByte, BadFieldCount, NameTooLong, BadGrade, RepeatedDocument, TooManyTopics, TooManyRows, TooManyNameBytes}
use Rattle.file_rows.specs.declared.fault.FileFault.{FileFault}
use Rattle.file_rows.specs.declared.fault.FileFault.TheVariants.{Line, Memory}
use Rattle.file_rows.specs.declared.limits.TheConstants.{MOST_NAME_BYTES}
use Rattle.file_rows.specs.Reading.{IsTooLong, unless, checked, and_then, field, is_long, read_line}
use Rattle.file_rows.specs.Rows.{Row}
use Rattle.file_rows.specs.Grouped.{TopicRows, grouped, with_row_on, is_topic, row_count, name_bytes_in}
use Rattle.file_rows.proofs.Chains.{read_whole, read_refused}
use Rattle.file_rows.proofs.Grouping.{grouped-append, repeated, is_topic-grouped, length-grouped, row_count-grouped, name_bytes_in-grouped}
use Rattle.qrels_reader.specs.declared.limits.TheConstants.{MOST_TOPICS, MOST_QRELS_ROWS}
use Rattle.qrels_reader.specs.Rows.{row_of, grade_of, form_faults, row_faults, read_row}
use Rattle.qrels_reader.specs.Grouped.{limits_after, faults_after}
use Rattle.qrels_reader.specs.Reader.{ReadsLine}

-- what the tests of a line's form give
pub form_is : (line : List ℕ) (a b c d e : Bool) → nat_lt LONGEST_LINE (length line) ≡ a → list_any is_bad line ≡ b → not (length (fields_of line) == 4) ≡ c → (is_long (field line 0) || is_long (field line 2)) ≡ d → is_none (grade_of line) ≡ e
    → unless (form_faults line) (row_of line) ≡ unless ((a, LineTooLong) ∷ (b, BadByte) ∷ (c, BadFieldCount) ∷ (d, NameTooLong) ∷ (e, BadGrade) ∷ []) (row_of line)
form_is line a b c d e p q r s t = λ i. unless ((p i, LineTooLong) ∷ (q i, BadByte) ∷ (r i, BadFieldCount) ∷ (s i, NameTooLong) ∷ (t i, BadGrade) ∷ []) (row_of line)

-- and those of the limits
pub limits_are : (ts : List TopicRows) (row : Row) (a b c : Bool) → (not (is_topic row.topic ts) && nat_le MOST_TOPICS (length ts)) ≡ a → nat_le MOST_QRELS_ROWS (row_count ts) ≡ b → nat_lt MOST_NAME_BYTES (name_bytes_in ts + length row.document) ≡ c
    → checked (limits_after ts row) ≡ unless ((a, TooManyTopics) ∷ (b, TooManyRows) ∷ (c, TooManyNameBytes) ∷ []) (tt {0})
limits_are ts row a b c p q r = λ i. unless ((p i, TooManyTopics) ∷ (q i, TooManyRows) ∷ (r i, TooManyNameBytes) ∷ []) (tt {0})

-- the faults of a row are those after the topics of the rows before it
faults_are : (ts : List TopicRows) (rows : List Row) (row : Row) → ts ≡ grouped rows → row_faults rows row ≡ faults_after ts row
faults_are ts rows row e =
    let a = repeated row.topic row.document rows in
    let b = is_topic-grouped row.topic rows in
    let c = length-grouped rows in
    let d = row_count-grouped rows in
    let f = name_bytes_in-grouped rows in
    (λ i. (sym a i, RepeatedDocument) ∷ (not (sym b i) && nat_le MOST_TOPICS (sym c i), TooManyTopics) ∷ (nat_le MOST_QRELS_ROWS (sym d i), TooManyRows) ∷ (nat_lt MOST_NAME_BYTES (sym f i + length row.document), TooManyNameBytes) ∷ [])
    ∙ ap (λ ts. faults_after ts row) (sym e)

-- what is read of a line of the right form
read_is : (number : ℕ) (rows : List Row) (line : List ℕ) (row : Row) (ts : List TopicRows) → is_blank line ≡ false → ts ≡ grouped rows → unless (form_faults line) (row_of line) ≡ Ok row
    → read_line read_row number rows line ≡ result_map_both (λ row. row) (Line number) (unless (faults_after ts row) (Some row))
read_is number rows line row ts b e f =
    ap (λ b. cond b (Ok None) (result_map_both (λ row. row) (Line number) (read_row rows line))) b
    ∙ ap (λ r. result_map_both (λ row. row) (Line number) (and_then r (λ row. unless (row_faults rows row) (Some row)))) f
    ∙ ap (λ tests. result_map_both (λ row. row) (Line number) (unless tests (Some row))) (faults_are ts rows row e)

-- a line of the right form
pub read_formed : (number : ℕ) (rows : List Row) (line : List ℕ) (row : Row) (ts ts' : List TopicRows) (answer : Result (Unit {0}) FileFault) → is_blank line ≡ false → ts ≡ grouped rows → unless (form_faults line) (row_of line) ≡ Ok row
    → OnOk answer (checked (faults_after ts row) ≡ Ok (tt {0})) → OnOk answer (ts' ≡ with_row_on ts row)
    → IfErr answer (λ e. (e ≡ Memory) ⊎ ((fault : LineFault) × (checked (faults_after ts row) ≡ Err fault) × (e ≡ Line number fault))) → ReadsLine number rows line answer ts'
read_formed number rows line row ts ts' (Ok done) b e f right added wrong =
    (Some row, read_whole number row (faults_after ts row) _ (read_is number rows line row ts b e f) right, added ∙ ap (λ ts. with_row_on ts row) e ∙ sym (grouped-append rows row))
read_formed number rows line row ts ts' (Err fault) b e f right added wrong = read_refused number row (faults_after ts row) _ (read_is number rows line row ts b e f) fault wrong

-- a line that is too long
pub read_too_long : (number : ℕ) (rows : List Row) (line : List ℕ) → IsTooLong line → read_line read_row number rows line ≡ Err (Line number LineTooLong)
read_too_long number rows line long =
    ap (λ b. cond (b && list_all is_separator line) (Ok None) (result_map_both (λ row. row) (Line number) (read_row rows line))) (lt-leb (length line) LONGEST_LINE long)
    ∙ ap (λ b. result_map_both (λ row. row) (Line number) (and_then (cond b (Err LineTooLong) (unless ((list_any is_bad line, BadByte) ∷ (not (length (fields_of line) == 4), BadFieldCount) ∷ (is_long (field line 0) || is_long (field line 2), NameTooLong) ∷ (is_none (grade_of line), BadGrade) ∷ []) (row_of line))) (λ row. unless (row_faults rows row) (Some row)))) (lt-ltb LONGEST_LINE (length line) long)
