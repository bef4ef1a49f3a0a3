-- What holds of rows that were read.
use Rattle.std.proofs.Common.{◌≡◌, Bor, ℤ, ℕ, suc, ◌+◌, ◌≤◌, List, [], ◌∷◌, ◌++◌, length, true, false, cond, refl, ap, sym, subst, ◌∙◌, arith, length-append}
use Rattle.std.specs.Prelude.{Bool, not, ◌||◌, ◌==◌, map, find, All, Option, Some, None, option_map, IfSome, IfOk, unwrap_or, Result, Ok, Err, nat_le}
use Rattle.std.specs.Option.{option_copied}
use Rattle.std.specs.Str.{bytes_eq}
use Rattle.std.specs.Result.{result_map_both}
use Rattle.std.proofs.lemmas.Bool.{leb-false, eqb-true, not-false}
use Rattle.std.proofs.lemmas.List.{append-nil, length-map}
use Rattle.std.proofs.lemmas.List.Elements.{All-push}
use Rattle.desk_text.specs.Lines.{is_blank, fields_of}
use Rattle.desk_model.specs.Name.{is_name}
use Rattle.desk_text.specs.Reading.{score_of}
use Rattle.desk_text.specs.declared.score.ScoreFault.{ScoreFault}
use Rattle.file_rows.specs.declared.fault.FileFault.TheVariants.{Line}
use Rattle.file_rows.specs.declared.fault.FileFault.{FileFault}
use Rattle.file_rows.specs.Reading.{unless, checked, field, is_long, and_then, read_line, rows_from, with_row}
use Rattle.file_rows.proofs.Chains.{Made, mapped, parted, last}
use Rattle.small_lemmas.proofs.Tests.{neither}
use Rattle.desk_model.proofs.Names.{same_name}
use Rattle.file_rows.proofs.Seen.{IsDistinct}
use Rattle.file_rows.proofs.FieldNames.{is_name-field}
use Rattle.file_rows.proofs.Chains.{none_holds}
use Rattle.run_reader.specs.declared.limits.TheConstants.{MOST_RANKS}
use Rattle.run_reader.specs.declared.used.Used.{Used}
use Rattle.file_rows.specs.Rows.{Row, rows_on}
use Rattle.run_reader.specs.Rows.{line_fault, row_of, tag_of, form_faults, formed, row_faults, read_row}
use Rattle.file_rows.specs.Grouped.{Valued, TopicRows, valued_of, grouped, names_of, is_topic, rows_in}
use Rattle.run_reader.specs.Run.{IsRun, name_of}
use Rattle.run_reader.specs.Reader.{name_after, run_with}
use Rattle.file_rows.proofs.Grouping.{rows_on-append}
use Rattle.file_rows.proofs.NamedRows.{IsNamed, documents_more, names_right, names_differ, members_right, documents_right, documents_differ}

depth_more : (rows : List Row) (row : Row) (name : List ℕ) → length (rows_on name rows) ≤ MOST_RANKS → nat_le MOST_RANKS (length (rows_on row.topic rows)) ≡ false → length (rows_on name (rows ++ row ∷ [])) ≤ MOST_RANKS
depth_more rows row name few room = by (bytes_eq name row.topic) refl
  where
    by : (b : Bool) → bytes_eq name row.topic ≡ b → length (rows_on name (rows ++ row ∷ [])) ≤ MOST_RANKS
    by true e =
        let here : length (rows_on name rows) ≡ length (rows_on row.topic rows) = ap (λ n. length (rows_on n rows)) (same_name name row.topic e) in
        let more = ap length (rows_on-append name rows row true e) in
        let lt = leb-false MOST_RANKS (length (rows_on row.topic rows)) room in
        omega (arith, length-append (rows_on name rows) (row ∷ []))
    by false e = let kept = ap length (rows_on-append name rows row false e ∙ append-nil (rows_on name rows)) in omega arith

scored_row : (line : List ℕ) (row : Row) (r : Result ℤ ScoreFault) → result_map_both (λ score. record { topic = field line 0; document = field line 2; value = score }) line_fault r ≡ Ok row → (row.topic ≡ field line 0) × (row.document ≡ field line 2)
scored_row line row (Ok s) e =
    let made : Row = record { topic = field line 0; document = field line 2; value = s } in
    let k : made ≡ row = cc in
    (sym (ap (λ r. r.topic) k), sym (ap (λ r. r.document) k))
scored_row line row (Err f) e = absurd (cc)

-- what a line of the right form has
pub record IsFormed (line : List ℕ) (row : Row) : Type 0 where
  pub named : IsNamed row
  pub tag : is_name (tag_of line) ≡ true

pub named_form : (line : List ℕ) (row : Row) → formed line ≡ Ok row → IsFormed line row
named_form line row e =
    let made = parted (checked (form_faults line)) (λ done. row_of line) row e in
    let fine = none_holds (form_faults line) (tt {0}) made.value made.found in
    let count : length (fields_of line) ≡ 6 = eqb-true (length (fields_of line)) 6 (not-false (length (fields_of line) == 6) fine.1.1.0) in
    let short = neither (is_long (field line 0)) (is_long (field line 2) || is_long (tag_of line)) fine.1.1.1.0 in
    let rest = neither (is_long (field line 2)) (is_long (tag_of line)) short.1 in
    let parts = scored_row line row (score_of (field line 4)) made.made in
    record {
      named = (ap is_name parts.0 ∙ is_name-field line 0 fine.1.0 (omega arith) short.0, ap is_name parts.1 ∙ is_name-field line 2 fine.1.0 (omega arith) rest.0);
      tag = is_name-field line 5 fine.1.0 (omega arith) rest.1;
    }

-- the name after one more line
pub name_of-next : (name : Option (List ℕ)) (line : List ℕ) (ls : List (List ℕ)) → name_of (name_after name line) ls ≡ name_of name (line ∷ ls)
name_of-next (Some n) line ls = by (is_blank line)
  where
    by : (b : Bool) → name_of (cond b (Some n) (Some n)) ls ≡ Some n
    by true = refl
    by false = refl
name_of-next None line ls = by (is_blank line)
  where
    by : (b : Bool) → name_of (cond b None (Some (tag_of line))) ls ≡ option_map tag_of (cond (not b) (Some line) (find (λ line. not (is_blank line)) ls))
    by true = refl
    by false = refl

-- the name after the last line
pub name_of-none : (name : Option (List ℕ)) → name_of name [] ≡ name
name_of-none (Some n) = refl
name_of-none None = refl

module _ (qrels : List TopicRows) (used : Used) where
  -- rows have names, stand on topics of the qrels, and are no more on a topic than the limit allows
  pub record AreRight (rows : List Row) : Type 0 where
    pub named : All (IsNamed) rows
    pub known : All (λ row. is_topic row.topic qrels ≡ true) rows
    pub documents : (name : List ℕ) → IsDistinct (map (λ row. row.document) (rows_on name rows))
    pub depth : (name : List ℕ) → length (rows_on name rows) ≤ MOST_RANKS

  pub none_right : AreRight []
  none_right = record { named = λ k d lt. absurd (omega arith); known = λ k d lt. absurd (omega arith); documents = λ name. tt; depth = λ name. omega arith }

  right_more : (rows : List Row) (row : Row) → AreRight rows → IsNamed row → is_topic row.topic qrels ≡ true → {A : Type 0} (a b : A) → unless (row_faults used rows row) a ≡ Ok b → AreRight (rows ++ row ∷ [])
  right_more rows row right named known a b e =
      let fine = none_holds (row_faults used rows row) a b e in
      record {
        named = All-push (IsNamed) rows row right.named named;
        known = All-push (λ row. is_topic row.topic qrels ≡ true) rows row right.known known;
        documents = λ name. documents_more rows row name (right.documents name) fine.0;
        depth = λ name. depth_more rows row name (right.depth name) fine.1.0;
      }

  -- what a line that is not blank gives
  line_parts : (number : ℕ) (rows : List Row) (line : List ℕ) (row : Option Row) → is_blank line ≡ false → read_line (read_row qrels used) number rows line ≡ Ok row
      → Made (formed line) (λ row. cond (is_topic row.topic qrels) (unless (row_faults used rows row) (Some row)) (Ok None)) row
  line_parts number rows line row b e =
      let read = sym (ap (λ b. cond b (Ok None) (result_map_both (λ row. row) (Line number) (read_row qrels used rows line))) b) ∙ e in
      parted (formed line) (λ row. cond (is_topic row.topic qrels) (unless (row_faults used rows row) (Some row)) (Ok None)) row (mapped (Line number) (read_row qrels used rows line) row read)

  -- the rows with those of one more line are right
  pub right_line : (number : ℕ) (rows : List Row) (line : List ℕ) (row : Option Row) → AreRight rows → read_line (read_row qrels used) number rows line ≡ Ok row → AreRight (with_row rows row)
  right_line number rows line row right e = by (is_blank line) refl
    where
      kept : (made : Row) → IsNamed made → (known : Bool) → is_topic made.topic qrels ≡ known → cond known (unless (row_faults used rows made) (Some made)) (Ok None) ≡ Ok row → AreRight (with_row rows row)
      kept made named true k f = subst (λ row. AreRight (with_row rows row)) (last (row_faults used rows made) (Some made) row f) (right_more rows made right named k (Some made) row f)
      kept made named false k f = (let none : None ≡ row = cc in subst (λ row. AreRight (with_row rows row)) none right)

      by : (b : Bool) → is_blank line ≡ b → AreRight (with_row rows row)
      by true b = (let none : Ok None ≡ Ok row = sym (ap (λ b. cond b (Ok None) (result_map_both (λ row. row) (Line number) (read_row qrels used rows line))) b) ∙ e in let n : None ≡ row = cc in subst (λ row. AreRight (with_row rows row)) n right)
      by false b =
          let made = line_parts number rows line row b e in
          kept made.value (named_form line made.value made.found).named (is_topic made.value.topic qrels) refl made.made

  -- the name after one more line is a name
  pub name_right : (number : ℕ) (rows : List Row) (line : List ℕ) (row : Option Row) (name : Option (List ℕ)) → IfSome name (λ n. is_name n ≡ true) → read_line (read_row qrels used) number rows line ≡ Ok row → IfSome (name_after name line) (λ n. is_name n ≡ true)
  name_right number rows line row name right e = by (is_blank line) refl
    where
      some : (name : Option (List ℕ)) → IfSome name (λ n. is_name n ≡ true) → is_name (tag_of line) ≡ true → is_name (unwrap_or name (tag_of line)) ≡ true
      some None h tag = tag
      some (Some n) h tag = h

      by : (b : Bool) → is_blank line ≡ b → IfSome (name_after name line) (λ n. is_name n ≡ true)
      by true b = subst (λ b. IfSome (cond b name (Some (unwrap_or name (tag_of line)))) (λ n. is_name n ≡ true)) (sym b) right
      by false b =
          let made = line_parts number rows line row b e in
          subst (λ b. IfSome (cond b name (Some (unwrap_or name (tag_of line)))) (λ n. is_name n ≡ true)) (sym b) (some name right (named_form line made.value made.found).tag)

  -- the rows of lines are right
  pub rows_right : (number : ℕ) (rows found : List Row) (lines : List (List ℕ)) → AreRight rows → rows_from (read_row qrels used) number rows lines ≡ Ok found → AreRight found
  rows_right number rows found [] right e = (let same : rows ≡ found = cc in subst AreRight same right)
  rows_right number rows found (line ∷ lines) right e = by (λ row made. rows_right (number + 1) (with_row rows row) found lines made) (read_line (read_row qrels used) number rows line) refl e
    where
      by : ((row : Option Row) → AreRight (with_row rows row) → rows_from (read_row qrels used) (number + 1) (with_row rows row) lines ≡ Ok found → AreRight found) → (row : Result (Option Row) FileFault) → read_line (read_row qrels used) number rows line ≡ row
          → and_then row (λ row. rows_from (read_row qrels used) (number + 1) (with_row rows row) lines) ≡ Ok found → AreRight found
      by rest (Ok row) f e = rest row (right_line number rows line row right f) e
      by rest (Err fault) f e = absurd (cc)

  -- and so is the name
  pub names_are_right : (number : ℕ) (rows found : List Row) (lines : List (List ℕ)) (name : Option (List ℕ)) → IfSome name (λ n. is_name n ≡ true) → rows_from (read_row qrels used) number rows lines ≡ Ok found → IfSome (name_of name lines) (λ n. is_name n ≡ true)
  names_are_right number rows found [] name right e = subst (λ n. IfSome n (λ n. is_name n ≡ true)) (sym (name_of-none name)) right
  names_are_right number rows found (line ∷ lines) name right e =
      subst (λ n. IfSome n (λ n. is_name n ≡ true)) (name_of-next name line lines)
      (by (λ row made. names_are_right (number + 1) (with_row rows row) found lines (name_after name line) made) (read_line (read_row qrels used) number rows line) refl e)
    where
      by : ((row : Option Row) → IfSome (name_after name line) (λ n. is_name n ≡ true) → rows_from (read_row qrels used) (number + 1) (with_row rows row) lines ≡ Ok found → IfSome (name_of (name_after name line) lines) (λ n. is_name n ≡ true))
          → (row : Result (Option Row) FileFault) → read_line (read_row qrels used) number rows line ≡ row → and_then row (λ row. rows_from (read_row qrels used) (number + 1) (with_row rows row) lines) ≡ Ok found → IfSome (name_of (name_after name line) lines) (λ n. is_name n ≡ true)
      by rest (Ok row) f e = rest row (name_right number rows line row name right f) e
      by rest (Err fault) f e = absurd (cc)

  -- the topics stand in the qrels
  pub topics_known : (rows : List Row) → AreRight rows → All (λ name. is_topic name qrels ≡ true) (names_of (grouped rows))
  topics_known rows right = names_right (λ name. is_topic name qrels ≡ true) rows right.known

  -- rows that are right make a run
  pub is_run : (rows : List Row) → AreRight rows → IsRun (grouped rows)
  is_run rows right = record {
    named = names_right (λ name. is_name name ≡ true) rows (λ k d lt. (right.named k d lt).0);
    distinct = names_differ rows;
    documents = documents_right (λ name. is_name name ≡ true) rows (λ k d lt. (right.named k d lt).1);
    distinct_documents = documents_differ rows right.documents;
    depth = members_right (λ valued. length valued ≤ MOST_RANKS) rows (λ name. let n = right.depth name in omega (arith, length-map (rows_on name rows) valued_of));
  }

-- what holds of the rows of each topic holds of those of a name
pub rows_in_right : (P : List Valued → Type 0) → P [] → (topics : List TopicRows) → All (λ topic. P topic.rows) topics → (name : List ℕ) → P (rows_in name topics)
rows_in_right P none [] h name = none
rows_in_right P none (t ∷ ts) h name = by (rows_in_right P none ts (λ k d lt. h (suc k) d (omega arith)) name) (bytes_eq name t.name)
  where
    by : P (rows_in name ts) → (b : Bool) → P (cond b t.rows (rows_in name ts))
    by rest true = h 0 t (omega arith)
    by rest false = rest

pub if_copied : (o : Option (Bor (List ℕ))) → IfSome o (λ n. is_name n.now ≡ true) → IfSome (option_copied o) (λ n. is_name n ≡ true)
if_copied None h = h
if_copied (Some n) h = h

pub known_run : (qrels : List TopicRows) (name : Option (List ℕ)) (used : Used) (topics : List TopicRows) → All (λ name. is_topic name qrels ≡ true) (names_of topics) → IfOk (run_with name used topics) (λ run. All (λ name. is_topic name qrels ≡ true) (names_of run.topics))
known_run qrels None used topics h = tt
known_run qrels (Some n) used topics h = h
