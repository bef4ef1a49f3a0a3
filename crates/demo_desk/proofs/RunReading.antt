-- The lines of a run are read as its rows, one after the other.
use Rattle.std.proofs.Common.{◌≡◌, ℕ, zero, suc, ◌+◌, ◌*◌, ◌%◌, ◌<◌, ◌≤◌, List, [], ◌∷◌, ◌++◌, length, true, false, cond, refl, ap, ap₂, sym, ◌∙◌, arith, append_assoc, append-nil, length-append}
use Rattle.std.specs.Prelude.{not, flat_map, find, Some, None, option_map, Ok}
use Rattle.std.specs.List.{range_with_len, AllByRecursion, AllZip}
use Rattle.std.specs.Str.{bytes_eq}
use Rattle.std.specs.Result.{result_map_both}
use Rattle.std.proofs.lemmas.Bool.{lt-leb, le-ltb}
use Rattle.std.proofs.lemmas.List.Concat.{flat_map_single}
use Rattle.std.proofs.lemmas.List.Sums.{sum_by-append, sum_by-cons}
use Rattle.desk_text.specs.Lines.{lines, is_blank}
use Rattle.desk_report.specs.Table.{ended}
use Rattle.file_rows.specs.Reading.{read_line, rows_from, rows_of, and_then, unless, with_row}
use Rattle.file_rows.specs.Grouped.{TopicRows, is_topic, grouped, row_count}
use Rattle.file_rows.specs.declared.fault.FileFault.TheVariants.{Line}
use Rattle.file_rows.specs.declared.limits.TheConstants.{MOST_NAME_BYTES}
use Rattle.run_reader.specs.declared.limits.TheConstants.{MOST_RANKS, MOST_RUN_ROWS}
use Rattle.run_reader.specs.declared.used.Used.{Used}
use Rattle.file_rows.specs.Rows.{Row, name_bytes_of}
use Rattle.run_reader.specs.Rows.{tag_of, row_faults, read_row}
use Rattle.run_reader.specs.Run.{Run, run_of, name_of, named, used_with}
use Rattle.file_rows.proofs.Grouping.{row_count-grouped}
use Rattle.qrels_round_trip.proofs.Line.{passes}
use Rattle.qrels_round_trip.proofs.Text.{lines-ended}
use Rattle.demo_desk.specs.Draws.{state_after, drawn}
use Rattle.demo_desk.specs.Texts.{topic_text, document_text, tag_text, place_line, document_at, topic_places, places_on}
use Rattle.demo_desk.specs.Demo.{HaveTopics}
use Rattle.demo_desk.proofs.Names.{document_length, documents_apart, topics_apart}
use Rattle.demo_desk.proofs.Nested.{of_topic, of_topics, all_of_topics, count_of_topics, zip_of_topics, IsNew, AreNew, new_of_topics}
use Rattle.demo_desk.proofs.RunLine.{Says, row_at, line_says, line_not_blank, tag_is}

abbrev topic_of : Row → List ℕ
topic_of row = row.topic

abbrev document_of : Row → List ℕ
document_of row = row.document

-- so many rows more, each with a document of five bytes, are within the limits
pub record HasRoom (used : Used) (more : ℕ) : Type 0 where
  pub rows : used.rows + more ≤ MOST_RUN_ROWS
  pub name_bytes : used.name_bytes + 5 * more ≤ MOST_NAME_BYTES

-- a row of the judgements' topics, with a document of five bytes
pub record IsPlain (qrels : List TopicRows) (row : Row) : Type 0 where
  pub known : is_topic row.topic qrels ≡ true
  pub short : length row.document ≡ 5

bytes_of : (qrels : List TopicRows) (rows : List Row) → AllByRecursion (IsPlain qrels) rows → name_bytes_of rows ≡ 5 * length rows
bytes_of qrels [] h = refl
bytes_of qrels (row ∷ rows) h = omega (arith, sum_by-cons (λ (r : Row). length r.document) row rows, bytes_of qrels rows h.1, h.0.short)

module _ (qrels : List TopicRows) (used : Used) where
  -- a line that says a row which is new and has room
  one_line : (number : ℕ) (before : List Row) (line : List ℕ) (row : Row) → Says line row → IsPlain qrels row → IsNew topic_of document_of 10000 before row →
      used.rows + length before < MOST_RUN_ROWS → used.name_bytes + name_bytes_of before + 5 ≤ MOST_NAME_BYTES → read_line (read_row qrels used) number before line ≡ Ok (Some row)
  one_line number before line row says plain new room bytes =
      let fine : unless (row_faults used before row) (Some row) ≡ Ok (Some row) =
      passes (row_faults used before row) (Some row) (
        new.other,
        (
          lt-leb MOST_RANKS (length (Rattle.file_rows.specs.Rows.rows_on row.topic before)) new.few,
          (
            lt-leb MOST_RUN_ROWS (used.rows + length before) room,
            (le-ltb MOST_NAME_BYTES (used.name_bytes + name_bytes_of before + length row.document) (let n = plain.short in omega (arith, n, bytes)), tt),
          ),
        ),
      ) in
      ap (λ b. cond b (Ok None) (result_map_both (λ row. row) (Line number) (read_row qrels used before line))) says.blank
      ∙ ap (λ r. result_map_both (λ row. row) (Line number) (and_then r (λ row. cond (is_topic row.topic qrels) (unless (row_faults used before row) (Some row)) (Ok None)))) says.form
      ∙ ap (λ b. result_map_both (λ row. row) (Line number) (cond b (unless (row_faults used before row) (Some row)) (Ok None))) plain.known
      ∙ ap (result_map_both (λ row. row) (Line number)) fine

  all_lines : (number : ℕ) (before : List Row) (ls : List (List ℕ)) (rows : List Row) → AllZip Says ls rows → AllByRecursion (IsPlain qrels) rows → AreNew topic_of document_of 10000 before rows →
      name_bytes_of before ≡ 5 * length before → HasRoom used (length before + length rows) → rows_from (read_row qrels used) number before ls ≡ Ok (before ++ rows)
  all_lines number before [] [] says plain new bytes room = ap Ok (sym (append-nil before))
  all_lines number before [] (row ∷ rows) says plain new bytes room = absurd says
  all_lines number before (line ∷ ls) [] says plain new bytes room = absurd says
  all_lines number before (line ∷ ls) (row ∷ rows) says plain new bytes room =
      let count : length (before ++ row ∷ []) ≡ length before + 1 = length-append before (row ∷ []) in
      let short = plain.0.short in
      let more : name_bytes_of (before ++ row ∷ []) ≡ 5 * length (before ++ row ∷ []) = omega (arith, sum_by-append (λ (r : Row). length r.document) before (row ∷ []), count, bytes, short) in
      let left : HasRoom used (length (before ++ row ∷ []) + length rows) = record { rows = omega (arith, count, room.rows); name_bytes = omega (arith, count, room.name_bytes) } in
      ap (λ r. and_then r (λ row. rows_from (read_row qrels used) (number + 1) (with_row before row) ls))
      (one_line number before line row says.0 plain.0 new.0 (omega (arith, room.rows)) (omega (arith, room.name_bytes, bytes)))
      ∙ all_lines (number + 1) (before ++ row ∷ []) ls rows says.1 plain.1 new.1 more left
      ∙ ap Ok (append_assoc before (row ∷ []) rows)

-- the lines of a text of good lines
lines-of_text : (ls : List (List ℕ)) (rows : List Row) → AllZip Says ls rows → lines (flat_map ended ls) ≡ ls
lines-of_text [] [] h = refl
lines-of_text [] (row ∷ rows) h = absurd h
lines-of_text (l ∷ ls) [] h = absurd h
lines-of_text (l ∷ ls) (row ∷ rows) h = lines-ended l (flat_map ended ls) h.0.good ∙ ap (λ ls. l ∷ ls) (lines-of_text ls rows h.1)

-- ---- the places of a run
module _ (x run places : ℕ) where
  abbrev state_of : ℕ → ℕ
  state_of t = state_after x ((1 + places) * t)

  abbrev doc_at : ℕ → ℕ → ℕ
  doc_at t k = document_at (drawn (state_of t) 0 % 2000) k

  abbrev score_at : ℕ → ℕ → ℕ
  score_at t k = drawn (state_of t) (1 + k) % 100000

  abbrev line_made : ℕ → ℕ → List (List ℕ)
  line_made t k = place_line run t (doc_at t k) k (score_at t k) ∷ []

  abbrev pub row_made : ℕ → ℕ → List Row
  row_made t k = row_at t (doc_at t k) (score_at t k) ∷ []

  lines_are : (topics : ℕ) → places_on x run places topics ≡ of_topics line_made places topics
  unfolding topic_places places_on
  lines_are topics = by (range_with_len 0 topics)
    where
      by : (ts : List ℕ) → flat_map (λ t. topic_places (state_of t) run t places) ts ≡ flat_map (λ t. of_topic line_made t places) ts
      by [] = refl
      by (t ∷ ts) = ap₂ (λ a b. a ++ b) (sym (flat_map_single (λ k. place_line run t (doc_at t k) k (score_at t k)) (range_with_len 0 places))) (by ts)

  one_row : (t k : ℕ) → length (row_made t k) ≡ 1
  one_row t k = refl

  docs_apart : (t i k : ℕ) → k < 500 → i < k → bytes_eq (document_text (doc_at t k)) (document_text (doc_at t i)) ≡ false
  docs_apart t i k hk hi = documents_apart (doc_at t k) (doc_at t i) (omega arith) (omega arith) (λ e. by (drawn (state_of t) 0 % 2000) e)
    where
      by : (c : ℕ) → (c + 7 * k) % 2000 ≡ (c + 7 * i) % 2000 → ⊥
      by c e = omega arith

  -- the first line has the run's name
  first_name : run < 8 → (n m : ℕ) → 0 < n → 0 < m → name_of None (of_topics line_made n m) ≡ Some (tag_text run)
  first_name hr zero m hn hm = absurd (omega arith)
  first_name hr (suc n) zero hn hm = absurd (omega arith)
  first_name hr (suc n) (suc m) hn hm =
      let line = place_line run 0 (doc_at 0 0) 0 (score_at 0 0) in
      let rest = find (λ line. not (is_blank line)) (flat_map (line_made 0) (range_with_len (0 + 1) n) ++ flat_map (λ t. of_topic line_made t (suc n)) (range_with_len (0 + 1) m)) in
      ap (λ b. option_map tag_of (cond (not b) (Some line) rest)) (line_not_blank run 0 (doc_at 0 0) 0 (score_at 0 0) hr (omega arith) (omega arith) (omega arith) (omega arith))
      ∙ ap Some (tag_is run 0 (doc_at 0 0) 0 (score_at 0 0) hr (omega arith) (omega arith) (omega arith) (omega arith))

  module _ (topics : ℕ) (hr : run < 8) (hp : places ≤ 500) (ht : topics ≤ 50) where
    abbrev rows : List Row
    rows = of_topics row_made places topics

    says : AllZip Says (of_topics line_made places topics) rows
    says = zip_of_topics Says line_made row_made places topics (λ t k lt lk. (line_says run t (doc_at t k) k (score_at t k) hr (omega arith) (omega arith) (omega arith) (omega arith), tt))

    plain : (qrels : List TopicRows) → HaveTopics topics qrels → AllByRecursion (IsPlain qrels) rows
    plain qrels on = all_of_topics row_made (IsPlain qrels) places topics (λ t k lt lk. (record { known = on.known t lt; short = document_length (doc_at t k) (omega arith) }, tt))

    new : AreNew topic_of document_of places [] rows
    new = new_of_topics topic_of document_of row_made topic_text (λ t k. document_text (doc_at t k)) places topics (λ t k. ((refl, refl), tt)) (λ t k. omega arith)
        (λ s t lt ls. topics_apart t s (omega arith) (omega arith) (λ e. omega arith)) (λ t i k lk li. docs_apart t i k (omega arith) li) topics (omega arith)

    weaker : (before rows : List Row) → AreNew topic_of document_of places before rows → AreNew topic_of document_of 10000 before rows
    weaker before [] h = tt
    weaker before (row ∷ rows) h = (record { other = h.0.other; few = let few = h.0.few in omega (arith, few) }, weaker (before ++ row ∷ []) rows h.1)

    abbrev text : List ℕ
    text = flat_map ended (places_on x run places topics)

    text_lines : lines text ≡ of_topics line_made places topics
    text_lines = ap (λ ls. lines (flat_map ended ls)) (lines_are topics) ∙ lines-of_text (of_topics line_made places topics) rows says

    rows_are_read : (qrels : List TopicRows) (used : Used) → HaveTopics topics qrels → HasRoom used (length rows) → rows_of (read_row qrels used) text ≡ Ok rows
    rows_are_read qrels used on room =
        ap (rows_from (read_row qrels used) 1 []) text_lines
        ∙ all_lines qrels used 1 [] (of_topics line_made places topics) rows says (plain qrels on) (weaker [] rows new) refl (record { rows = omega (arith, room.rows); name_bytes = omega (arith, room.name_bytes) })

-- a run is read beside judgements, after what was used
pub record IsRead (x number places topics : ℕ) (qrels : List TopicRows) (used : Used) : Type 0 where
  pub run : Run
  pub read : run_of None qrels used (flat_map ended (places_on x number places topics)) ≡ Ok run
  pub name : run.name ≡ tag_text number
  pub rows_used : run.used.rows ≡ used.rows + places * topics
  pub bytes_used : run.used.name_bytes ≡ used.name_bytes + 5 * (places * topics)
  pub rows_kept : row_count run.topics ≡ places * topics

pub run_is_read : (x number places topics : ℕ) (qrels : List TopicRows) (used : Used) → number < 8 → places ≤ 500 → topics ≤ 50 → 0 < places → 0 < topics → HaveTopics topics qrels → HasRoom used (places * topics) →
    IsRead x number places topics qrels used
run_is_read x number places topics qrels used hr hp ht some one_topic on room =
    let all = rows x number places topics hr hp ht in
    let count : length all ≡ places * topics = count_of_topics (row_made x number places) (one_row x number places) places topics in
    let roomy : HasRoom used (length all) = record { rows = omega (arith, count, room.rows); name_bytes = omega (arith, count, room.name_bytes) } in
    let it = rows_are_read x number places topics hr hp ht qrels used on roomy in
    let name : name_of None (lines (text x number places topics hr hp ht)) ≡ Some (tag_text number) =
    ap (name_of None) (text_lines x number places topics hr hp ht) ∙ first_name x number places hr places topics some one_topic in
    record {
      run = record { name = tag_text number; topics = grouped all; used = used_with used all };
      read = ap (λ r. and_then r (named (name_of None (lines (text x number places topics hr hp ht))) used)) it ∙ ap (λ n. named n used all) name;
      name = refl;
      rows_used = omega (arith, count);
      bytes_used = omega (arith, count, bytes_of qrels all (plain x number places topics hr hp ht qrels on));
      rows_kept = row_count-grouped all ∙ count;
    }
