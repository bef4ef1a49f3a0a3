-- Faults that are looked for one after the other.
use Rattle.std.proofs.Common.{◌≡◌, ℕ, ◌+◌, List, [], ◌∷◌, length, true, false, cond, refl, ap, sym, ◌∙◌, inl, inr, ◌⊎◌}
use Rattle.std.specs.Prelude.{Bool, not, ◌||◌, ◌&&◌, ◌==◌, Some, None, Result, Ok, Err, OnOk, IfErr, nat_lt, nat_le}
use Rattle.std.specs.List.{list_any, list_all}
use Rattle.std.specs.Result.{result_map_both}
use Rattle.std.specs.Str.{bytes_eq}
use Rattle.std.proofs.lemmas.List.{length-map}
use Rattle.std.proofs.lemmas.Bool.{lt-ltb, lt-leb}
use Rattle.desk_text.specs.Lines.{is_bad, is_blank, is_separator, fields_of}
use Rattle.desk_text.specs.declared.line.TheConstants.{LONGEST_LINE}
use Rattle.file_rows.specs.declared.fault.LineFault.{LineFault}
use Rattle.file_rows.specs.declared.fault.LineFault.TheVariants.{LineTooLong, BadByte, BadFieldCount, NameTooLong, RepeatedDocument, TooDeep, TooManyRows, TooManyNameBytes}
use Rattle.file_rows.specs.declared.fault.FileFault.{FileFault}
use Rattle.file_rows.specs.declared.fault.FileFault.TheVariants.{Line, Memory}
use Rattle.file_rows.specs.declared.limits.TheConstants.{MOST_NAME_BYTES}
use Rattle.file_rows.specs.Reading.{IsTooLong, unless, checked, and_then, field, is_long, read_line}
use Rattle.file_rows.proofs.Chains.{read_whole, read_refused}
use Rattle.run_reader.specs.declared.limits.TheConstants.{MOST_RANKS, MOST_RUN_ROWS}
use Rattle.run_reader.specs.declared.used.Used.{Used}
use Rattle.file_rows.specs.Rows.{Row, rows_on}
use Rattle.run_reader.specs.Rows.{row_of, tag_of, formed, row_faults, read_row}
use Rattle.file_rows.specs.Grouped.{TopicRows, valued_of, grouped, is_topic, with_row_on, rows_in, row_count, name_bytes_in}
use Rattle.run_reader.specs.Run.{faults_after}
use Rattle.run_reader.specs.Reader.{ReadsLine}
use Rattle.file_rows.proofs.Grouping.{grouped-append, repeated, members_on-grouped, name_bytes_in-grouped}
use Rattle.file_rows.proofs.Grouping.{row_count-grouped}

-- what the tests of a line's form give
pub formed_is : (line : List ℕ) (a b c d : Bool) → nat_lt LONGEST_LINE (length line) ≡ a → list_any is_bad line ≡ b → not (length (fields_of line) == 6) ≡ c → (is_long (field line 0) || (is_long (field line 2) || is_long (tag_of line))) ≡ d
    → formed line ≡ and_then (checked ((a, LineTooLong) ∷ (b, BadByte) ∷ (c, BadFieldCount) ∷ (d, NameTooLong) ∷ [])) (λ done. row_of line)
formed_is line a b c d p q r s = λ i. and_then (checked ((p i, LineTooLong) ∷ (q i, BadByte) ∷ (r i, BadFieldCount) ∷ (s i, NameTooLong) ∷ [])) (λ done. row_of line)

-- and those of a row
pub row_is : (used : Used) (ts : List TopicRows) (row : Row) (a b c d : Bool) → list_any (λ valued. bytes_eq row.document valued.document) (rows_in row.topic ts) ≡ a → nat_le MOST_RANKS (length (rows_in row.topic ts)) ≡ b
    → nat_le MOST_RUN_ROWS (used.rows + row_count ts) ≡ c → nat_lt MOST_NAME_BYTES (used.name_bytes + name_bytes_in ts + length row.document) ≡ d
    → checked (faults_after used ts row) ≡ checked ((a, RepeatedDocument) ∷ (b, TooDeep) ∷ (c, TooManyRows) ∷ (d, TooManyNameBytes) ∷ [])
row_is used ts row a b c d p q r s = λ i. checked ((p i, RepeatedDocument) ∷ (q i, TooDeep) ∷ (r i, TooManyRows) ∷ (s i, TooManyNameBytes) ∷ [])

-- the faults of a row are those after the topics of the rows before it
faults_are : (used : Used) (ts : List TopicRows) (rows : List Row) (row : Row) → ts ≡ grouped rows → row_faults used rows row ≡ faults_after used ts row
faults_are used ts rows row e =
    let a = repeated row.topic row.document rows in
    let b : length (rows_in row.topic (grouped rows)) ≡ length (rows_on row.topic rows) = ap length (members_on-grouped row.topic rows) ∙ length-map (rows_on row.topic rows) valued_of in
    let c = row_count-grouped rows in
    let d = name_bytes_in-grouped rows in
    (λ i. (sym a i, RepeatedDocument) ∷ (nat_le MOST_RANKS (sym b i), TooDeep) ∷ (nat_le MOST_RUN_ROWS (used.rows + sym c i), TooManyRows) ∷ (nat_lt MOST_NAME_BYTES (used.name_bytes + sym d i + length row.document), TooManyNameBytes) ∷ [])
    ∙ ap (λ ts. faults_after used ts row) (sym e)

module _ (qrels : List TopicRows) (used : Used) (number : ℕ) (rows : List Row) (line : List ℕ) where
  filled : is_blank line ≡ false → read_line (read_row qrels used) number rows line ≡ result_map_both (λ row. row) (Line number) (read_row qrels used rows line)
  filled b = ap (λ b. cond b (Ok None) (result_map_both (λ row. row) (Line number) (read_row qrels used rows line))) b

  -- a line that is blank
  pub read_blank : (ts : List TopicRows) → is_blank line ≡ true → ts ≡ grouped rows → ReadsLine qrels used number rows line (Ok tt) ts
  read_blank ts b e = (None, ap (λ b. cond b (Ok None) (result_map_both (λ row. row) (Line number) (read_row qrels used rows line))) b, e)

  -- a line whose form is wrong
  pub read_misformed : (fault : LineFault) (ts : List TopicRows) → is_blank line ≡ false → formed line ≡ Err fault → ReadsLine qrels used number rows line (Err (Line number fault)) ts
  read_misformed fault ts b e =
      inr (filled b ∙ ap (λ r. result_map_both (λ row. row) (Line number) (and_then r (λ row. cond (is_topic row.topic qrels) (unless (row_faults used rows row) (Some row)) (Ok None)))) e)

  read_rest : (row : Row) → is_blank line ≡ false → formed line ≡ Ok row → (known : Bool) → is_topic row.topic qrels ≡ known
      → read_line (read_row qrels used) number rows line ≡ result_map_both (λ row. row) (Line number) (cond known (unless (row_faults used rows row) (Some row)) (Ok None))
  read_rest row b f known e =
      filled b ∙ ap (λ r. result_map_both (λ row. row) (Line number) (and_then r (λ row. cond (is_topic row.topic qrels) (unless (row_faults used rows row) (Some row)) (Ok None)))) f
      ∙ ap (λ k. result_map_both (λ row. row) (Line number) (cond k (unless (row_faults used rows row) (Some row)) (Ok None))) e

  -- a row on a topic that the qrels lack
  pub read_dropped : (row : Row) (ts : List TopicRows) → is_blank line ≡ false → formed line ≡ Ok row → is_topic row.topic qrels ≡ false → ts ≡ grouped rows → ReadsLine qrels used number rows line (Ok tt) ts
  read_dropped row ts b f k e = (None, read_rest row b f false k, e)

  read_is : (row : Row) (ts : List TopicRows) → is_blank line ≡ false → formed line ≡ Ok row → is_topic row.topic qrels ≡ true → ts ≡ grouped rows
      → read_line (read_row qrels used) number rows line ≡ result_map_both (λ row. row) (Line number) (unless (faults_after used ts row) (Some row))
  read_is row ts b f k e = read_rest row b f true k ∙ ap (λ tests. result_map_both (λ row. row) (Line number) (unless tests (Some row))) (faults_are used ts rows row e)

  -- a row on a topic of the qrels
  read_kept : (row : Row) (ts ts' : List TopicRows) (answer : Result (Unit {0}) FileFault) → is_blank line ≡ false → formed line ≡ Ok row → is_topic row.topic qrels ≡ true → ts ≡ grouped rows
      → OnOk answer (checked (faults_after used ts row) ≡ Ok (tt {0})) → OnOk answer (ts' ≡ with_row_on ts row)
      → IfErr answer (λ e. (e ≡ Memory) ⊎ ((fault : LineFault) × (checked (faults_after used ts row) ≡ Err fault) × (e ≡ Line number fault))) → ReadsLine qrels used number rows line answer ts'
  read_kept row ts ts' (Ok done) b f k e right added wrong =
      (Some row, read_whole number row (faults_after used ts row) _ (read_is row ts b f k e) right, added ∙ ap (λ ts. with_row_on ts row) e ∙ sym (grouped-append rows row))
  read_kept row ts ts' (Err fault) b f k e right added wrong = read_refused number row (faults_after used ts row) _ (read_is row ts b f k e) fault wrong

  -- a row of a line
  pub read_said : (row : Row) (ts ts' : List TopicRows) (answer : Result (Unit {0}) FileFault) → is_blank line ≡ false → formed line ≡ Ok row → ts ≡ grouped rows
      → OnOk answer (is_topic row.topic qrels ≡ false → ts' ≡ ts)
      → OnOk answer (is_topic row.topic qrels ≡ true → checked (faults_after used ts row) ≡ Ok (tt {0})) → OnOk answer (is_topic row.topic qrels ≡ true → ts' ≡ with_row_on ts row)
      → IfErr answer (λ e. (e ≡ Memory) ⊎ ((fault : LineFault) × (is_topic row.topic qrels ≡ true) × (checked (faults_after used ts row) ≡ Err fault) × (e ≡ Line number fault))) → ReadsLine qrels used number rows line answer ts'
  read_said row ts ts' (Ok done) b f e dropped right added wrong = by (is_topic row.topic qrels) refl
    where
      by : (known : Bool) → is_topic row.topic qrels ≡ known → ReadsLine qrels used number rows line (Ok done) ts'
      by true k = read_kept row ts ts' (Ok done) b f k e (right k) (added k) tt
      by false k = read_dropped row ts' b f k (dropped k ∙ e)
  read_said row ts ts' (Err fault) b f e dropped right added (inl w) = inl w
  read_said row ts ts' (Err fault) b f e dropped right added (inr w) = read_refused number row (faults_after used ts row) _ (read_is row ts b f w.1 e) fault (inr (w.0, w.2, w.3))

-- a line that is too long
pub read_too_long : (qrels : List TopicRows) (used : Used) (number : ℕ) (rows : List Row) (line : List ℕ) → IsTooLong line → read_line (read_row qrels used) number rows line ≡ Err (Line number LineTooLong)
read_too_long qrels used number rows line long =
    ap (λ b. cond (b && list_all is_separator line) (Ok None) (result_map_both (λ row. row) (Line number) (read_row qrels used rows line))) (lt-leb (length line) LONGEST_LINE long)
    ∙ ap (λ b. result_map_both (λ row. row) (Line number) (and_then (and_then (cond b (Err LineTooLong) (checked ((list_any is_bad line, BadByte) ∷ (not (length (fields_of line) == 6), BadFieldCount) ∷ (is_long (field line 0) || (is_long (field line 2) || is_long (tag_of line)), NameTooLong) ∷ []))) (λ done. row_of line)) (λ row. cond (is_topic row.topic qrels) (unless (row_faults used rows row) (Some row)) (Ok None)))) (lt-ltb LONGEST_LINE (length line) long)
