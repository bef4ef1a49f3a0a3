-- The grades of a judgements file are at most 1,000.
use Rattle.std.proofs.Common.{◌≡◌, ℕ, ◌+◌, ◌<◌, List, [], ◌∷◌, Bool, true, false, length, map, get_or, cond, Option, Some, None, Result, Ok, Err, ℤ, pos, ◌≤ℤ◌, refl, ap, sym, subst, ◌∙◌, arith}
use Rattle.std.specs.Prelude.{All, find, option_map, slice_get, unwrap_or, ◌==◌}
use Rattle.std.specs.List.{position_or_len}
use Rattle.std.specs.Result.{result_map_both}
use Rattle.std.specs.Str.{bytes_eq}
use Rattle.std.proofs.lemmas.Int.{ints}
use Rattle.std.proofs.lemmas.List.Elements.{All-nil, All-filter, All-from_get_or, All-map, All-push}
use Rattle.std.proofs.lemmas.List.Folds.{find_at}
use Rattle.std.proofs.lemmas.Option.{slice_get-get_or, slice_get_within}
use Rattle.desk_text.specs.Lines.{lines, is_blank}
use Rattle.desk_model.specs.Book.{Book, IsBook}
use Rattle.desk_model.proofs.Nested.{get_or-there}
use Rattle.file_rows.specs.Reading.{unless, field, read_line, rows_from, rows_of, with_row}
use Rattle.file_rows.specs.Rows.{Row, rows_on}
use Rattle.file_rows.specs.Grouped.{TopicRows, Valued, valued_of, grouped, rows_in}
use Rattle.file_rows.specs.declared.fault.FileFault.TheVariants.{Line, NoTopics}
use Rattle.file_rows.proofs.Grouping.{members_on-grouped}
use Rattle.file_rows.proofs.Chains.{parted, last, mapped}
use Rattle.qrels_reader.specs.Rows.{row_of, grade_of, form_faults, row_faults, read_row}
use Rattle.qrels_reader.specs.Grouped.{qrels_of}
use Rattle.qrels_reader.specs.declared.limits.TheConstants.{LEAST_GRADE, GREATEST_GRADE}
use Rattle.qrels_reader.proofs.Grades.{whole_of_within}
use Rattle.run_reader.specs.Run.{Run}
use Rattle.topics_pool.specs.Rows.{IsBookOf, grade_in}

abbrev pub IsSmall : ℤ → Type 0
IsSmall grade = grade ≤ℤ pos 1000

abbrev pub IsSmallGrade : Option ℤ → Type 0
IsSmallGrade None = Unit {0}
IsSmallGrade (Some grade) = IsSmall grade

-- ---- rows
abbrev SmallRow : Row → Type 0
SmallRow row = IsSmall row.value

row_small : (line : List ℕ) → SmallRow (row_of line)
row_small line = by (grade_of line) refl
  where
    by : (o : Option ℤ) → grade_of line ≡ o → IsSmall (unwrap_or o (pos 0))
    by None e = omega (arith, ints)
    by (Some z) e = (whole_of_within LEAST_GRADE GREATEST_GRADE z (field line 3) e).1

line_small : (number : ℕ) (rows : List Row) (line : List ℕ) (kept : Option Row) → All SmallRow rows → read_line read_row number rows line ≡ Ok kept → All SmallRow (with_row rows kept)
line_small number rows line kept h e = by (is_blank line) e
  where
    by : (b : Bool) → cond b (Ok None) (result_map_both (λ row. row) (Line number) (read_row rows line)) ≡ Ok kept → All SmallRow (with_row rows kept)
    by true e = let none : None ≡ kept = cc in subst (λ o. All SmallRow (with_row rows o)) none h
    by false e =
        let made = parted (unless (form_faults line) (row_of line)) (λ row. unless (row_faults rows row) (Some row)) kept (mapped (Line number) (read_row rows line) kept e) in
        let first : row_of line ≡ made.value = last (form_faults line) (row_of line) made.value made.found in
        let some : Some made.value ≡ kept = last (row_faults rows made.value) (Some made.value) kept made.made in
        subst (λ o. All SmallRow (with_row rows o)) some (All-push SmallRow rows made.value h (subst SmallRow first (row_small line)))

rows_small : (number : ℕ) (rows : List Row) (ls : List (List ℕ)) (all : List Row) → All SmallRow rows → rows_from read_row number rows ls ≡ Ok all → All SmallRow all
rows_small number rows [] all h e = let same : rows ≡ all = cc in subst (All SmallRow) same h
rows_small number rows (line ∷ ls) all h e =
    let made = parted (read_line read_row number rows line) (λ row. rows_from read_row (number + 1) (with_row rows row) ls) all e in
    rows_small (number + 1) (with_row rows made.value) ls all (line_small number rows line made.value h made.found) made.made

-- ---- the file
pub record AreSmall (qrels : List TopicRows) : Type 0 where
  pub rows : List Row
  pub small : All SmallRow rows
  pub are : qrels ≡ grouped rows

pub qrels_small : (bytes : List ℕ) (qrels : List TopicRows) → qrels_of bytes ≡ Ok qrels → AreSmall qrels
qrels_small bytes qrels e =
    let made = parted (rows_of read_row bytes) (λ rows. cond (length rows == 0) (Err NoTopics) (Ok (grouped rows))) qrels e in
    by made.value (rows_small 1 [] (lines bytes) made.value (All-nil SmallRow) made.found) (length made.value == 0) made.made
  where
    by : (rows : List Row) → All SmallRow rows → (b : Bool) → cond b (Err NoTopics) (Ok (grouped rows)) ≡ Ok qrels → AreSmall qrels
    by rows small true e = absurd (cc)
    by rows small false e = record { rows = rows; small = small; are = cc }

found_small : (name : List ℕ) (documents : List Valued) → All (λ (j : Valued). IsSmall j.value) documents → IsSmallGrade (grade_in documents name)
found_small name documents h = by (find (λ judged. bytes_eq name judged.document) documents) (find_at (λ judged. bytes_eq name judged.document) documents)
  where
    by : (o : Option Valued) → o ≡ slice_get documents (position_or_len (λ judged. bytes_eq name judged.document) documents) → IsSmallGrade (option_map (λ (j : Valued). j.value) o)
    by None e = tt
    by (Some j) e =
        let at = position_or_len (λ judged. bytes_eq name judged.document) documents in
        subst (λ (j : Valued). IsSmall j.value) (get_or-there documents at j j (sym e)) (h at j (slice_get_within documents at j (sym e)))

file_small : (qrels : List TopicRows) → AreSmall qrels → (topic name : List ℕ) → IsSmallGrade (grade_in (rows_in topic qrels) name)
file_small qrels are topic name =
    subst (λ documents. IsSmallGrade (grade_in documents name)) (sym (ap (rows_in topic) are.are ∙ members_on-grouped topic are.rows))
    (found_small name (map valued_of (rows_on topic are.rows))
    (All-map (λ (j : Valued). IsSmall j.value) valued_of (rows_on topic are.rows) (All-filter (λ (row : Row). bytes_eq topic row.topic) SmallRow are.rows are.small)))

-- the grades of a topic
pub book_small : (qrels : List TopicRows) (runs : List Run) (book : Book) → AreSmall qrels → IsBookOf qrels runs book → length book.grades ≡ length book.docs → All IsSmallGrade book.grades
book_small qrels runs book are of graded =
    All-from_get_or IsSmallGrade book.grades None (λ k lt.
    let within : k < length book.docs = omega (arith, lt, graded) in
    let name = get_or book.docs k [] in
    let file : get_or book.grades k None ≡ grade_in (rows_in book.name qrels) name = of.grades k name (slice_get-get_or book.docs k [] within) in
    subst IsSmallGrade (sym file) (file_small qrels are book.name name))
