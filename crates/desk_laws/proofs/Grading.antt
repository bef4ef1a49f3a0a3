-- The grades in force of a session are from 0 to 1,000.
use Rattle.std.proofs.Common.{◌≡◌, ℕ, suc, ◌+◌, ◌<◌, List, [], ◌∷◌, ◌++◌, Bool, true, false, length, map, get_or, cond, Option, Some, None, Result, Ok, Err, ℤ, pos, negsuc, ◌≤ℤ◌, refl, sym, subst, ◌∙◌, arith}
use Rattle.std.specs.Prelude.{filter, find, option_map, if◌then◌else◌, unwrap_or, ◌&&◌, not, ◌==◌}
use Rattle.std.specs.List.{AllByRecursion, AllZip, enumerate_from, list_any, range_with_len}
use Rattle.std.specs.Result.{result_map_both}
use Rattle.std.specs.Str.{bytes_eq}
use Rattle.std.proofs.lemmas.Int.{ints}
use Rattle.std.proofs.lemmas.List.Elements.{recursion_from_All}
use Rattle.std.proofs.lemmas.Option.{slice_get-get_or}
use Rattle.desk_text.specs.Lines.{lines, is_blank}
use Rattle.desk_model.specs.Book.{Book}
use Rattle.desk_model.specs.Desk.{Desk}
use Rattle.desk_model.specs.Named.{book_at}
use Rattle.judge_session.specs.Session.{is_live_by, is_undone_by, with_live, without_undone, undone, redone}
use Rattle.judge_session.specs.InForce.{counted_grade, grade_after, grades_in_force, is_live_on, judgeable}
use Rattle.judge_session.specs.declared.change.Change.{Change}
use Rattle.judge_session.specs.declared.answers.JudgeFault.{JudgeFault}
use Rattle.file_rows.specs.Reading.{unless, field, read_line, rows_from, rows_of, with_row}
use Rattle.file_rows.specs.Rows.{Row, rows_on}
use Rattle.qrels_reader.specs.Rows.{row_of, grade_of, form_faults, row_faults, read_row}
use Rattle.file_rows.specs.Grouped.{TopicRows, Valued, valued_of, grouped, rows_in}
use Rattle.qrels_reader.specs.Grouped.{qrels_of}
use Rattle.file_rows.specs.declared.fault.FileFault.TheVariants.{Line, NoTopics}
use Rattle.qrels_reader.specs.declared.limits.TheConstants.{LEAST_GRADE, GREATEST_GRADE}
use Rattle.qrels_reader.proofs.Grades.{whole_of_within}
use Rattle.file_rows.proofs.Grouping.{members_on-grouped}
use Rattle.file_rows.proofs.Chains.{parted, last, mapped}
use Rattle.run_reader.specs.Run.{Run}
use Rattle.topics_pool.specs.Rows.{IsBookOf, grade_in}
use Rattle.qrels_round_trip.specs.RoundTrip.{IsGradeInForce, AreGradesOf}
use Rattle.judge_session.specs.Request.{Judge, Undo, Redo, Heard, Asked, heard_of}
use Rattle.judge_session.specs.Forms.{IsHeardWithin}
use Rattle.judge_session.proofs.Lines.{within}
use Rattle.session_replies.specs.Replies.{changes_after, after_judging}
use Rattle.session_replies.proofs.Marks.{length-in_force}
use Rattle.session_stream.specs.Text.{changes_over}
use Rattle.desk_laws.specs.Replaced.{GradesAreInForce}
use Rattle.desk_laws.proofs.Loading.{taken_apart}

abbrev IsSmall : ℤ → Type 0
IsSmall grade = grade ≤ℤ pos 1000

abbrev IsSmallGrade : Option ℤ → Type 0
IsSmallGrade None = Unit {0}
IsSmallGrade (Some grade) = IsSmall grade

-- ---- lists
all_push : {X : Type 0} (P : X → Type 0) (xs : List X) (x : X) → AllByRecursion P xs → P x → AllByRecursion P (xs ++ x ∷ [])
all_push P [] x h k = (k, tt)
all_push P (y ∷ xs) x h k = (h.0, all_push P xs x h.1 k)

all_kept : {X : Type 0} (P : X → Type 0) (p : X → Bool) (xs : List X) → AllByRecursion P xs → AllByRecursion P (filter p xs)
all_kept P p [] h = tt
all_kept P p (x ∷ xs) h = by (p x) (all_kept P p xs h.1)
  where
    by : (b : Bool) → AllByRecursion P (filter p xs) → AllByRecursion P (cond b (x ∷ filter p xs) (filter p xs))
    by true k = (h.0, k)
    by false k = k

all_mapped : {X Y : Type 0} (P : X → Type 0) (Q : Y → Type 0) (f : X → Y) → ((x : X) → P x → Q (f x)) → (xs : List X) → AllByRecursion P xs → AllByRecursion Q (map f xs)
all_mapped P Q f g [] h = tt
all_mapped P Q f g (x ∷ xs) h = (g x h.0, all_mapped P Q f g xs h.1)

-- ---- the grades of a judgements file
abbrev SmallRows : List Row → Type 0
SmallRows rows = AllByRecursion (λ (row : Row). IsSmall row.value) rows

row_small : (line : List ℕ) → IsSmall (row_of line).value
row_small line = by (grade_of line) refl
  where
    by : (o : Option ℤ) → grade_of line ≡ o → IsSmall (unwrap_or o (pos 0))
    by None e = omega (arith, ints)
    by (Some z) e = (whole_of_within LEAST_GRADE GREATEST_GRADE z (field line 3) e).1

line_small : (number : ℕ) (rows : List Row) (line : List ℕ) (kept : Option Row) → SmallRows rows → read_line read_row number rows line ≡ Ok kept → SmallRows (with_row rows kept)
line_small number rows line kept h e = by (is_blank line) e
  where
    by : (b : Bool) → cond b (Ok None) (result_map_both (λ row. row) (Line number) (read_row rows line)) ≡ Ok kept → SmallRows (with_row rows kept)
    by true e = let none : None ≡ kept = cc in subst (λ o. SmallRows (with_row rows o)) none h
    by false e =
        let made = parted (unless (form_faults line) (row_of line)) (λ row. unless (row_faults rows row) (Some row)) kept (mapped (Line number) (read_row rows line) kept e) in
        let own : row_of line ≡ made.value = last (form_faults line) (row_of line) made.value made.found in
        let some : Some made.value ≡ kept = last (row_faults rows made.value) (Some made.value) kept made.made in
        subst (λ o. SmallRows (with_row rows o)) some
        (all_push (λ (row : Row). IsSmall row.value) rows made.value h (subst (λ (row : Row). IsSmall row.value) own (row_small line)))

rows_small : (number : ℕ) (rows : List Row) (ls : List (List ℕ)) (all : List Row) → SmallRows rows → rows_from read_row number rows ls ≡ Ok all → SmallRows all
rows_small number rows [] all h e = let own : rows ≡ all = cc in subst SmallRows own h
rows_small number rows (line ∷ ls) all h e =
    let made = parted (read_line read_row number rows line) (λ row. rows_from read_row (number + 1) (with_row rows row) ls) all e in
    rows_small (number + 1) (with_row rows made.value) ls all (line_small number rows line made.value h made.found) made.made

record AreSmall (qrels : List TopicRows) : Type 0 where
  pub rows : List Row
  pub small : SmallRows rows
  pub are : grouped rows ≡ qrels

qrels_small : (bytes : List ℕ) (qrels : List TopicRows) → qrels_of bytes ≡ Ok qrels → AreSmall qrels
qrels_small bytes qrels e =
    let made = parted (rows_of read_row bytes) (λ rows. cond (length rows == 0) (Err NoTopics) (Ok (grouped rows))) qrels e in
    by made.value (rows_small 1 [] (lines bytes) made.value tt made.found) (length made.value == 0) made.made
  where
    by : (rows : List Row) → SmallRows rows → (b : Bool) → cond b (Err NoTopics) (Ok (grouped rows)) ≡ Ok qrels → AreSmall qrels
    by rows small true e = absurd (cc)
    by rows small false e = record { rows = rows; small = small; are = cc }

found_small : (name : List ℕ) (documents : List Valued) → AllByRecursion (λ (j : Valued). IsSmall j.value) documents → IsSmallGrade (grade_in documents name)
found_small name [] h = tt
found_small name (j ∷ documents) h = by (bytes_eq name j.document) (found_small name documents h.1)
  where
    by : (b : Bool) → IsSmallGrade (grade_in documents name) → IsSmallGrade (option_map (λ (j : Valued). j.value) (cond b (Some j) (find (λ judged. bytes_eq name judged.document) documents)))
    by true k = h.0
    by false k = k

file_small : (qrels : List TopicRows) → AreSmall qrels → (topic name : List ℕ) → IsSmallGrade (grade_in (rows_in topic qrels) name)
file_small qrels are topic name =
    subst (λ q. IsSmallGrade (grade_in (rows_in topic q) name)) are.are
    (found_small name (rows_in topic (grouped are.rows))
    (subst (AllByRecursion (λ (j : Valued). IsSmall j.value)) (sym (members_on-grouped topic are.rows))
    (all_mapped (λ (row : Row). IsSmall row.value) (λ (j : Valued). IsSmall j.value) valued_of (λ row h. h) (rows_on topic are.rows)
    (all_kept (λ (row : Row). IsSmall row.value) (λ (row : Row). bytes_eq topic row.topic) are.rows are.small))))

-- ---- the changes
abbrev SmallChange : Change → Type 0
SmallChange change = IsSmall change.grade

marked_small : (b live : Bool) (change : Change) → SmallChange change → SmallChange (if b then with_live live change else change)
marked_small true live change h = h
marked_small false live change h = h

undone_small : (who : List ℕ) (changes : List Change) → AllByRecursion SmallChange changes → AllByRecursion SmallChange (undone who changes)
undone_small who [] h = tt
undone_small who (c ∷ changes) h = (marked_small (is_live_by who c && not (list_any (is_live_by who) changes)) false c h.0, undone_small who changes h.1)

redone_small : (who : List ℕ) (changes : List Change) → AllByRecursion SmallChange changes → AllByRecursion SmallChange (redone who changes)
redone_small who [] h = tt
redone_small who (c ∷ changes) h = by (is_undone_by who c) (redone_small who changes h.1)
  where
    by : (b : Bool) → AllByRecursion SmallChange (redone who changes) → AllByRecursion SmallChange (if b then with_live true c ∷ changes else c ∷ redone who changes)
    by true k = h
    by false k = (h.0, k)

step_small : (desk : Desk) (heard : Heard) (changes : List Change) → IsHeardWithin heard → AllByRecursion SmallChange changes → AllByRecursion SmallChange (changes_after desk heard changes)
step_small desk (Asked (Judge who topic doc grade)) changes is h = by (judgeable desk who topic doc changes)
  where
    by : (r : Result (ℕ × ℕ) JudgeFault) → AllByRecursion SmallChange (after_judging who grade changes r)
    by (Err fault) = h
    by (Ok place) =
        all_push SmallChange (without_undone who changes) (record { who = who; topic = place.0; doc = place.1; grade = grade; live = true })
        (all_kept SmallChange (λ change. not (is_undone_by who change)) changes h) is.3.1
step_small desk (Asked (Undo who)) changes is h = undone_small who changes h
step_small desk (Asked (Redo who)) changes is h = redone_small who changes h
step_small desk heard changes is h = h

changes_small : (desk : Desk) (lines : List (List ℕ)) (changes : List Change) → AllByRecursion SmallChange changes → AllByRecursion SmallChange (changes_over desk lines changes)
changes_small desk [] changes h = h
changes_small desk (line ∷ lines) changes h = changes_small desk lines (changes_after desk (heard_of line) changes) (step_small desk (heard_of line) changes (within line) h)

-- ---- the grades in force
after_small : (grade : Option ℤ) (topic doc : ℕ) (changes : List Change) → IsSmallGrade grade → AllByRecursion SmallChange changes → IsSmallGrade (grade_after grade topic doc changes)
after_small grade topic doc [] g h = g
after_small grade topic doc (c ∷ changes) g h = after_small (if is_live_on topic doc c then Some c.grade else grade) topic doc changes (by (is_live_on topic doc c)) h.1
  where
    by : (b : Bool) → IsSmallGrade (if b then Some c.grade else grade)
    by true = h.0
    by false = g

counted_in_force : (grade : Option ℤ) → IsSmallGrade grade → IsGradeInForce (counted_grade grade)
counted_in_force None h = tt
counted_in_force (Some (pos n)) h = (omega (arith, ints), h)
counted_in_force (Some (negsuc n)) h = tt

topic_in_force : (topic n : ℕ) (changes : List Change) (grades : List (Option ℤ)) → AllByRecursion SmallChange changes → AllByRecursion IsSmallGrade grades →
    AllByRecursion IsGradeInForce (map (λ p. counted_grade (grade_after p.1 topic p.0 changes)) (enumerate_from n grades))
topic_in_force topic n changes [] h g = tt
topic_in_force topic n changes (grade ∷ grades) h g = (counted_in_force (grade_after grade topic n changes) (after_small grade topic n changes g.0 h), topic_in_force topic (n + 1) changes grades h g.1)

book_small : (qrels : List TopicRows) (runs : List Run) (book : Book) → AreSmall qrels → IsBookOf qrels runs book → length book.grades ≡ length book.docs → AllByRecursion IsSmallGrade book.grades
book_small qrels runs book are of graded =
    recursion_from_All IsSmallGrade book.grades (λ k d lt.
    let within : k < length book.docs = omega (arith, lt, graded) in
    let name = get_or book.docs k [] in
    let file : get_or book.grades k None ≡ grade_in (rows_in book.name qrels) name = of.grades k name (slice_get-get_or book.docs k [] within) in
    let one : Some (get_or book.grades k d) ≡ Some (get_or book.grades k None) = sym (slice_get-get_or book.grades k d lt) ∙ slice_get-get_or book.grades k None lt in
    let own : get_or book.grades k None ≡ get_or book.grades k d = cc in
    subst IsSmallGrade own (subst IsSmallGrade (sym file) (file_small qrels are book.name name)))

zip_from : {X Y : Type 0} (R : X → Y → Type 0) (d : X) (f : ℕ → Y) (k : ℕ) (xs : List X) → ((i : ℕ) → i < length xs → R (get_or xs i d) (f (k + i))) → AllZip R xs (map f (range_with_len k (length xs)))
zip_from R d f k [] each = tt
zip_from R d f k (x ∷ xs) each =
    (subst (λ n. R x (f n)) (omega arith) (each 0 (omega arith)), zip_from R d f (k + 1) xs (λ i lt. subst (λ n. R (get_or xs i d) (f n)) (omega arith) (each (suc i) (omega arith))))

pub grades_of_session : GradesAreInForce
grades_of_session files from rows desk lines loads of_rows =
    let apart = taken_apart files from rows loads in
    let are = qrels_small apart.judgements.bytes rows.qrels apart.judgements.says in
    let changes = changes_over desk lines [] in
    let small = changes_small desk lines [] tt in
    let none : Book = record { name = []; docs = []; grades = [] } in
    zip_from AreGradesOf none (λ topic. grades_in_force desk topic changes) 0 desk.topics (λ t lt.
    let at : t ≡ 0 + t = omega arith in
    subst (λ n. AreGradesOf (get_or desk.topics t none) (grades_in_force desk n changes)) at (record {
      count = length-in_force desk of_rows.valid t changes lt;
      each = topic_in_force t 0 changes (book_at desk t).grades small (book_small rows.qrels rows.runs (book_at desk t) are (of_rows.books t none lt) (of_rows.valid.books t none lt).graded);
    }))
