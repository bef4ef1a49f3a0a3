-- The text of the judgements is read: its lines are those of rows that are new, and these are within the limits.
use Rattle.std.proofs.Common.{◌≡◌, ℕ, zero, suc, ◌+◌, ◌*◌, ◌%◌, ◌<◌, ◌≤◌, List, [], ◌∷◌, ◌++◌, length, true, false, cond, refl, ap, sym, subst, ◌∙◌, arith, pos, inl, inr, mul-le-mul}
use Rattle.std.specs.Prelude.{Bool, ◌||◌, ◌==◌, map, flat_map, if◌then◌else◌, Result, Ok, Err}
use Rattle.std.specs.List.{list_any, range_with_len, AllByRecursion}
use Rattle.std.specs.Str.{bytes_eq}
use Rattle.std.proofs.lemmas.Bool.{ne_eqb, cases_eq}
use Rattle.std.proofs.lemmas.Int.{ints}
use Rattle.std.proofs.lemmas.List.{length-map}
use Rattle.std.proofs.lemmas.List.FromFn.{length-range_with_len, map-range_with_len_more}
use Rattle.std.proofs.lemmas.List.Folds.{list_any-append}
use Rattle.std.proofs.lemmas.List.Sums.{sum_by-cons}
use Rattle.desk_text.specs.Lines.{lines}
use Rattle.desk_report.specs.Table.{ended}
use Rattle.file_rows.specs.Rows.{Row, name_bytes_of, has_topic}
use Rattle.qrels_reader.specs.Rows.{read_row}
use Rattle.file_rows.specs.Reading.{rows_of, rows_from, and_then}
use Rattle.file_rows.specs.Grouped.{TopicRows, grouped}
use Rattle.qrels_reader.specs.Grouped.{qrels_of}
use Rattle.file_rows.specs.declared.fault.FileFault.{FileFault}
use Rattle.file_rows.specs.declared.fault.FileFault.TheVariants.{NoTopics}
use Rattle.file_rows.proofs.Seen.{laws}
use Rattle.file_rows.proofs.Grouping.{is_topic-grouped, name_bytes_in-grouped}
use Rattle.qrels_round_trip.specs.RoundTrip.{AreWithinLimits}
use Rattle.qrels_round_trip.proofs.Line.{IsWritable, line_of}
use Rattle.qrels_round_trip.proofs.Reading as reading
use Rattle.qrels_round_trip.proofs.Reading.{IsOutcome, reads}
use Rattle.qrels_round_trip.proofs.Text.{lines-of_ended, pulled}
use Rattle.qrels_round_trip.proofs.OneTopic.{AreFresh, or_second}
use Rattle.qrels_round_trip.proofs.AllTopics.{IsOf, are_new}
use Rattle.demo_desk.specs.Draws.{state_after, drawn}
use Rattle.demo_desk.specs.Texts.{topic_text, document_text, is_listed, grade_by, judgement_lines, topic_judgements, judgements_on}
use Rattle.demo_desk.specs.Demo.{HaveTopics}
use Rattle.demo_desk.proofs.Names.{document_name, document_length, documents_apart, topic_name, topics_apart}
use Rattle.demo_desk.proofs.Nested.{of_topic, of_topics, of_topics-suc, all_of_topics, most_of_topics, AreNew, HasNames, new_of_topics}

-- the rows of a document, by the value of its draw: one where it is listed
abbrev rows_at : ℕ → ℕ → ℕ → List Row
rows_at topic doc value = if is_listed doc value then (record { topic = topic_text topic; document = document_text doc; value = pos (grade_by value) }) ∷ [] else []

-- none, or one
each_of : (P : List Row → Type 0) (topic doc value : ℕ) → P [] → P ((record { topic = topic_text topic; document = document_text doc; value = pos (grade_by value) }) ∷ []) → P (rows_at topic doc value)
each_of P topic doc value none one = by (is_listed doc value)
  where
    by : (b : Bool) → P (cond b ((record { topic = topic_text topic; document = document_text doc; value = pos (grade_by value) }) ∷ []) [])
    by true = one
    by false = none

lines_at : (topic doc value : ℕ) → judgement_lines topic doc value ≡ map line_of (rows_at topic doc value)
lines_at topic doc value = by (is_listed doc value)
  where
    row : Row
    row = record { topic = topic_text topic; document = document_text doc; value = pos (grade_by value) }

    by : (b : Bool) → cond b (line_of row ∷ []) [] ≡ map line_of (cond b (row ∷ []) [])
    by true = refl
    by false = refl

module _ (x documents : ℕ) where
  abbrev made : ℕ → ℕ → List Row
  made t d = rows_at t d (drawn (state_after x (documents * t)) d)

  lines_are : (topics : ℕ) → judgements_on x documents topics ≡ map line_of (of_topics made documents topics)
  unfolding topic_judgements judgements_on
  lines_are topics =
      pulled (λ t. of_topic made t documents) line_of (λ t. topic_judgements (state_after x (documents * t)) t documents)
      (λ t. pulled (made t) line_of (λ d. judgement_lines t d (drawn (state_after x (documents * t)) d)) (λ d. lines_at t d (drawn (state_after x (documents * t)) d)) (range_with_len 0 documents)) (range_with_len 0 topics)

  module _ (topics : ℕ) (hd : documents ≤ 2000) (ht : topics ≤ 50) where
    abbrev rows : List Row
    rows = of_topics made documents topics

    writable : AllByRecursion IsWritable rows
    writable = all_of_topics made IsWritable documents topics (λ t d lt ld.
        let v = drawn (state_after x (documents * t)) d in
        each_of (AllByRecursion IsWritable) t d v tt (record { topic = topic_name t (omega arith); document = document_name d (omega arith); grade = (omega (arith, ints), let small : grade_by v ≤ 1000 = omega arith in omega (arith, ints, small)) }, tt))

    named : (t d : ℕ) → AllByRecursion (HasNames (λ (row : Row). row.topic) (λ (row : Row). row.document) (topic_text t) (document_text d)) (made t d)
    named t d = each_of (AllByRecursion (HasNames (λ (row : Row). row.topic) (λ (row : Row). row.document) (topic_text t) (document_text d))) t d (drawn (state_after x (documents * t)) d) tt ((refl, refl), tt)

    one : (t d : ℕ) → length (made t d) ≤ 1
    one t d = each_of (λ rows. length rows ≤ 1) t d (drawn (state_after x (documents * t)) d) (omega arith) (omega arith)

    new : AreNew (λ (row : Row). row.topic) (λ (row : Row). row.document) documents [] rows
    new = new_of_topics (λ (row : Row). row.topic) (λ (row : Row). row.document) made topic_text (λ t d. document_text d) documents topics named one
        (λ s t lt ls. topics_apart t s (omega arith) (omega arith) (λ e. omega arith))
        (λ t i d ld li. documents_apart d i (omega arith) (omega arith) (λ e. omega arith)) topics (omega arith)

    fresh : (before rows : List Row) → AreNew (λ (row : Row). row.topic) (λ (row : Row). row.document) documents before rows → AreFresh before rows
    fresh before [] h = tt
    fresh before (row ∷ rows) h = (h.0.other, fresh (before ++ row ∷ []) rows h.1)

    -- the names of the topics
    abbrev names : List (List ℕ)
    names = map topic_text (range_with_len 0 topics)

    count : length rows ≤ documents * topics
    count = most_of_topics made one documents topics

    short : AllByRecursion (λ (row : Row). length row.document ≡ 5) rows
    short = all_of_topics made (λ (row : Row). length row.document ≡ 5) documents topics (λ t d lt ld.
        each_of (AllByRecursion (λ (row : Row). length row.document ≡ 5)) t d (drawn (state_after x (documents * t)) d) tt (document_length d (omega arith), tt))

bytes_of : (rows : List Row) → AllByRecursion (λ (row : Row). length row.document ≡ 5) rows → name_bytes_of rows ≡ 5 * length rows
bytes_of [] h = refl
bytes_of (row ∷ rows) h = omega (arith, sum_by-cons (λ (r : Row). length r.document) row rows, bytes_of rows h.1, h.0)

-- ---- each topic has a row
or_true : (b : Bool) → (b || true) ≡ true
or_true true = refl
or_true false = refl

module _ (x documents : ℕ) (some : 0 < documents) where
  first_listed : (t : ℕ) → has_topic (topic_text t) (made x documents t 0) ≡ true
  first_listed t = by (is_listed 0 (drawn (state_after x (documents * t)) 0)) (or_true (drawn (state_after x (documents * t)) 0 % 10 == 0))
    where
      by : (b : Bool) → b ≡ true → has_topic (topic_text t) (cond b ((record { topic = topic_text t; document = document_text 0; value = pos (grade_by (drawn (state_after x (documents * t)) 0)) }) ∷ []) []) ≡ true
      by true e = ap (λ b. b || false) (laws.refl (topic_text t))
      by false e = absurd (cc)

  has_first : (t n : ℕ) → 0 < n → has_topic (topic_text t) (of_topic (made x documents) t n) ≡ true
  has_first t zero h = absurd (omega arith)
  has_first t (suc n) h =
      list_any-append (λ (row : Row). bytes_eq (topic_text t) row.topic) (made x documents t 0) (flat_map (made x documents t) (range_with_len (0 + 1) n))
      ∙ ap (λ b. b || has_topic (topic_text t) (flat_map (made x documents t) (range_with_len (0 + 1) n))) (first_listed t)

  has_each : (t topics : ℕ) → t < topics → has_topic (topic_text t) (of_topics (made x documents) documents topics) ≡ true
  has_each t zero h = absurd (omega arith)
  has_each t (suc topics) h =
      ap (has_topic (topic_text t)) (of_topics-suc (made x documents) documents topics)
      ∙ list_any-append (λ (row : Row). bytes_eq (topic_text t) row.topic) (of_topics (made x documents) documents topics) (of_topic (made x documents) topics documents)
      ∙ elim (cases_eq t topics) [
        | inl e ↦ or_second (has_topic (topic_text t) (of_topics (made x documents) documents topics)) (has_topic (topic_text t) (of_topic (made x documents) topics documents))
            (ap (λ s. has_topic (topic_text t) (of_topic (made x documents) s documents)) (sym e) ∙ has_first t documents some)
        | inr n ↦ ap (λ b. b || has_topic (topic_text t) (of_topic (made x documents) topics documents)) (has_each t topics (omega arith))
      ]

-- the name of each topic is one of the names
own_name : (t topics : ℕ) → t < topics → list_any (bytes_eq (topic_text t)) (map topic_text (range_with_len 0 topics)) ≡ true
own_name t zero h = absurd (omega arith)
own_name t (suc topics) h =
    ap (list_any (bytes_eq (topic_text t))) (names_more topics) ∙ list_any-append (bytes_eq (topic_text t)) (map topic_text (range_with_len 0 topics)) (topic_text topics ∷ [])
    ∙ elim (cases_eq t topics) [
      | inl e ↦ or_second (list_any (bytes_eq (topic_text t)) (map topic_text (range_with_len 0 topics))) (list_any (bytes_eq (topic_text t)) (topic_text topics ∷ []))
          (ap (λ s. list_any (bytes_eq (topic_text t)) (topic_text s ∷ [])) (sym e) ∙ ap (λ b. b || false) (laws.refl (topic_text t)))
      | inr n ↦ ap (λ b. b || list_any (bytes_eq (topic_text t)) (topic_text topics ∷ [])) (own_name t topics (omega arith))
    ]
  where
    names_more : (n : ℕ) → map topic_text (range_with_len 0 (suc n)) ≡ map topic_text (range_with_len 0 n) ++ topic_text n ∷ []
    names_more n = let e : suc n ≡ n + 1 = omega arith in ap (λ k. map topic_text (range_with_len 0 k)) e ∙ map-range_with_len_more topic_text 0 n n (omega arith)

-- ---- the text is read
module _ (x documents topics : ℕ) (hd : documents ≤ 2000) (ht : topics ≤ 50) (some : 0 < documents) (one_topic : 0 < topics) where
  abbrev all : List Row
  all = rows x documents topics hd ht

  abbrev text : List ℕ
  text = flat_map ended (judgements_on x documents topics)

  few : length all ≤ 100000
  few = let n = count x documents topics hd ht in let m : documents * topics ≤ 2000 * 50 = mul-le-mul hd ht in omega (arith, n, m)

  bytes : name_bytes_of all ≤ 500000
  bytes = let n = bytes_of all (short x documents topics hd ht) in let m = few in omega (arith, n, m)

  outcome : IsOutcome all (rows_of read_row text)
  outcome =
      let w = writable x documents topics hd ht in
      let among : AllByRecursion (IsOf (names x documents topics hd ht)) all =
      all_of_topics (made x documents) (IsOf (names x documents topics hd ht)) documents topics (λ t d lt ld.
      each_of (AllByRecursion (IsOf (names x documents topics hd ht))) t d (drawn (state_after x (documents * t)) d) tt (own_name t topics lt, tt)) in
      let n : reading.AreNew [] all = are_new (names x documents topics hd ht) [] all (omega (arith, length-map (range_with_len 0 topics) topic_text, length-range_with_len 0 topics)) tt among (fresh x documents topics hd ht [] all (new x documents topics hd ht)) in
      let none : AreWithinLimits [] = record { count = omega arith; name_bytes = omega arith } in
      let same : rows_of read_row text ≡ rows_from read_row 1 [] (map line_of all) =
      ap (rows_from read_row 1 []) (ap (λ ls. lines (flat_map ended ls)) (lines_are x documents topics) ∙ lines-of_ended all w) in
      subst (IsOutcome all) (sym same) (reads 1 [] all w n none)

  rows_read : (r : Result (List Row) FileFault) → IsOutcome all r → r ≡ Ok all
  rows_read (Ok read) h = ap Ok h.0
  rows_read (Err fault) h = absurd (elim h.1 [ inl p ↦ (let m = few in omega (arith, p.1, m)) | inr p ↦ (let m = bytes in omega (arith, p.1, m)) ])

  some_row : (ls : List Row) → has_topic (topic_text 0) ls ≡ true → 0 < length ls
  some_row [] h = absurd (cc)
  some_row (l ∷ ls) h = omega arith

  read : qrels_of text ≡ Ok (grouped all)
  read =
      let filled : (length all == 0) ≡ false = ne_eqb (length all) 0 (λ e. let s = some_row all (has_each x documents some 0 topics one_topic) in omega arith) in
      ap (λ r. and_then r (λ rows. if length rows == 0 then Err NoTopics else Ok (grouped rows))) (rows_read (rows_of read_row text) outcome)
      ∙ ap (λ b. cond b (Err NoTopics) (Ok (grouped all))) filled

  have_topics : HaveTopics topics (grouped all)
  have_topics = record {
    known = λ t h. is_topic-grouped (topic_text t) all ∙ has_each x documents some t topics h;
    name_bytes = let n = name_bytes_in-grouped all in let m = bytes in omega (arith, n, m);
  }

-- the judgements of a text are read
pub record IsRead (x documents topics : ℕ) : Type 0 where
  pub qrels : List TopicRows
  pub read : qrels_of (flat_map ended (judgements_on x documents topics)) ≡ Ok qrels
  pub topics_there : HaveTopics topics qrels

pub judgements_are_read : (x documents topics : ℕ) → documents ≤ 2000 → topics ≤ 50 → 0 < documents → 0 < topics → IsRead x documents topics
judgements_are_read x documents topics hd ht some one_topic = record {
  qrels = grouped (all x documents topics hd ht some one_topic);
  read = read x documents topics hd ht some one_topic;
  topics_there = have_topics x documents topics hd ht some one_topic;
}
