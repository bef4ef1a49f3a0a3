-- What holds of rows that were read.
use Rattle.std.proofs.Common.{◌≡◌, ℕ, ◌+◌, ◌<◌, ◌≤◌, List, [], ◌∷◌, ◌++◌, length, true, false, cond, refl, ap, subst, ◌∙◌, arith, length-append}
use Rattle.std.specs.Prelude.{Bool, not, ◌&&◌, ◌||◌, ◌==◌, map, All, Option, Some, None, Result, Ok, Err, nat_le}
use Rattle.std.specs.List.{list_any}
use Rattle.std.specs.Str.{bytes_eq}
use Rattle.std.specs.Result.{result_map_both}
use Rattle.std.proofs.lemmas.Bool.{ltb-false, leb-false, eqb-true, not-false}
use Rattle.std.proofs.lemmas.List.{map-append}
use Rattle.std.proofs.lemmas.List.Elements.{All-push}
use Rattle.std.proofs.lemmas.List.Sums.{sum_by-append}
use Rattle.desk_text.specs.Lines.{is_blank, fields_of}
use Rattle.desk_model.specs.Name.{is_name}
use Rattle.file_rows.specs.declared.fault.FileFault.TheVariants.{Line}
use Rattle.file_rows.specs.declared.fault.FileFault.{FileFault}
use Rattle.qrels_reader.specs.declared.limits.TheConstants.{MOST_TOPICS, MOST_QRELS_ROWS}
use Rattle.file_rows.specs.declared.limits.TheConstants.{MOST_NAME_BYTES}
use Rattle.file_rows.specs.Reading.{unless, and_then, field, is_long, read_line, rows_from, with_row}
use Rattle.file_rows.specs.Rows.{Row, first_seen, topics_of, rows_on, has_topic, name_bytes_of}
use Rattle.qrels_reader.specs.Rows.{row_of, form_faults, row_faults, read_row}
use Rattle.file_rows.specs.Grouped.{TopicRows, grouped, row_count}
use Rattle.qrels_reader.specs.Grouped.{IsQrels}
use Rattle.small_lemmas.proofs.Tests.{neither}
use Rattle.file_rows.proofs.Seen.{add_name, first_seen-append, IsDistinct}
use Rattle.file_rows.proofs.NamedRows.{IsNamed, documents_more, names_right, names_differ, documents_right, documents_differ}
use Rattle.file_rows.proofs.Grouping.{has_topic-topics, row_count-grouped, name_bytes_in-grouped, length-grouped}
use Rattle.file_rows.proofs.FieldNames.{is_name-field}
use Rattle.file_rows.proofs.Chains.{none_holds, mapped, parted, last}

-- rows have names, and are no more than the limits allow
pub record AreRight (rows : List Row) : Type 0 where
  pub named : All (IsNamed) rows
  pub topics : length (topics_of rows) ≤ MOST_TOPICS
  pub count : length rows ≤ MOST_QRELS_ROWS
  pub bytes : name_bytes_of rows ≤ MOST_NAME_BYTES
  pub documents : (name : List ℕ) → IsDistinct (map (λ row. row.document) (rows_on name rows))

pub none_right : AreRight []
none_right = record { named = λ k d lt. absurd (omega arith); topics = omega arith; count = omega arith; bytes = omega arith; documents = λ name. tt }

length-add_name : (ns : List (List ℕ)) (n : List ℕ) → length (add_name ns n) ≡ length ns + cond (list_any (bytes_eq n) ns) 0 1
length-add_name [] n = refl
length-add_name (x ∷ ns) n = by (length-add_name ns n) (bytes_eq n x)
  where
    by : length (add_name ns n) ≡ length ns + cond (list_any (bytes_eq n) ns) 0 1 → (b : Bool) → length (cond b (x ∷ ns) (x ∷ add_name ns n)) ≡ length (x ∷ ns) + cond (b || list_any (bytes_eq n) ns) 0 1
    by rest true = omega arith
    by rest false = omega (arith, rest)

length-topics_of : (rows : List Row) (row : Row) → length (topics_of (rows ++ row ∷ [])) ≡ length (topics_of rows) + cond (has_topic row.topic rows) 0 1
length-topics_of rows row =
    ap (λ ns. length (first_seen ns)) (map-append (λ (r : Row). r.topic) rows (row ∷ [])) ∙ ap length (first_seen-append (map (λ r. r.topic) rows) row.topic)
    ∙ length-add_name (topics_of rows) row.topic ∙ ap (λ b. length (topics_of rows) + cond b 0 1) (has_topic-topics row.topic rows)

few_topics : (known : Bool) (n : ℕ) → n ≤ MOST_TOPICS → (not known && nat_le MOST_TOPICS n) ≡ false → n + cond known 0 1 ≤ MOST_TOPICS
few_topics true n le e = omega arith
few_topics false n le e = let lt = leb-false MOST_TOPICS n e in omega arith

-- one more row that is right
pub right_more : (rows : List Row) (row : Row) → AreRight rows → IsNamed row → {A : Type 0} (a b : A) → unless (row_faults rows row) a ≡ Ok b → AreRight (rows ++ row ∷ [])
right_more rows row right named a b e =
    let fine = none_holds (row_faults rows row) a b e in
    let few = few_topics (has_topic row.topic rows) (length (topics_of rows)) right.topics fine.1.0 in
    let room = leb-false MOST_QRELS_ROWS (length rows) fine.1.1.0 in
    let short = ltb-false MOST_NAME_BYTES (name_bytes_of rows + length row.document) fine.1.1.1.0 in
    record {
      named = All-push (IsNamed) rows row right.named named;
      topics = omega (arith, length-topics_of rows row, few);
      count = omega (arith, length-append rows (row ∷ []), room);
      bytes = omega (arith, sum_by-append (λ (r : Row). length r.document) rows (row ∷ []), short);
      documents = λ name. documents_more rows row name (right.documents name) fine.0;
    }

-- the row of a line whose form is right has names
named_form : (line : List ℕ) (row : Row) → unless (form_faults line) (row_of line) ≡ Ok row → IsNamed row
named_form line row e =
    let fine = none_holds (form_faults line) (row_of line) row e in
    let count : length (fields_of line) ≡ 4 = eqb-true (length (fields_of line)) 4 (not-false (length (fields_of line) == 4) fine.1.1.0) in
    let short = neither (is_long (field line 0)) (is_long (field line 2)) fine.1.1.1.0 in
    subst (IsNamed) (last (form_faults line) (row_of line) row e) (is_name-field line 0 fine.1.0 (omega arith) short.0, is_name-field line 2 fine.1.0 (omega arith) short.1)

-- the rows with those of one more line are right
pub right_line : (number : ℕ) (rows : List Row) (line : List ℕ) (row : Option Row) → AreRight rows → read_line read_row number rows line ≡ Ok row → AreRight (with_row rows row)
right_line number rows line row right e = by (is_blank line) e
  where
    by : (b : Bool) → cond b (Ok None) (result_map_both (λ row. row) (Line number) (read_row rows line)) ≡ Ok row → AreRight (with_row rows row)
    by true e = (let none : None ≡ row = cc in subst (λ row. AreRight (with_row rows row)) none right)
    by false e =
        let made = parted (unless (form_faults line) (row_of line)) (λ row. unless (row_faults rows row) (Some row)) row (mapped (Line number) (read_row rows line) row e) in
        subst (λ row. AreRight (with_row rows row)) (last (row_faults rows made.value) (Some made.value) row made.made)
        (right_more rows made.value right (named_form line made.value made.found) (Some made.value) row made.made)

-- rows that are right are those of a file that was read, once there is one
pub is_qrels : (rows : List Row) → AreRight rows → 0 < row_count (grouped rows) → IsQrels (grouped rows)
is_qrels rows right some = record {
  some_topic = at_least (grouped rows) some;
  named = names_right (λ name. is_name name ≡ true) rows (λ k d lt. (right.named k d lt).0);
  distinct = names_differ rows;
  documents = documents_right (λ name. is_name name ≡ true) rows (λ k d lt. (right.named k d lt).1);
  distinct_documents = documents_differ rows right.documents;
  topics = omega (arith, length-grouped rows, right.topics);
  rows = omega (arith, row_count-grouped rows, right.count);
  name_bytes = omega (arith, name_bytes_in-grouped rows, right.bytes);
}
  where
    at_least : (ts : List TopicRows) → 0 < row_count ts → 0 < length ts
    at_least [] h = absurd (omega arith)
    at_least (t ∷ ts) h = omega arith

-- the rows of lines are right
pub rows_right : (number : ℕ) (rows found : List Row) (lines : List (List ℕ)) → AreRight rows → rows_from read_row number rows lines ≡ Ok found → AreRight found
rows_right number rows found [] right e = (let same : rows ≡ found = cc in subst AreRight same right)
rows_right number rows found (line ∷ lines) right e = by (λ row made. rows_right (number + 1) (with_row rows row) found lines made) (read_line read_row number rows line) refl e
  where
    by : ((row : Option Row) → AreRight (with_row rows row) → rows_from read_row (number + 1) (with_row rows row) lines ≡ Ok found → AreRight found) → (row : Result (Option Row) FileFault) → read_line read_row number rows line ≡ row
        → and_then row (λ row. rows_from read_row (number + 1) (with_row rows row) lines) ≡ Ok found → AreRight found
    by rest (Ok row) f e = rest row (right_line number rows line row right f) e
    by rest (Err fault) f e = absurd (cc)
