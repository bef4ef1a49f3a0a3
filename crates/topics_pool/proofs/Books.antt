-- A topic is that of its rows.
use Rattle.std.proofs.Common.{◌≡◌, ℕ, ◌<◌, ◌≤◌, Bool, true, false, cond, List, [], ◌∷◌, ◌++◌, length, map, Some, None, refl, ap, ap₂, sym, ◌∙◌, subst, length-append, get_or, arith}
use Rattle.std.specs.Prelude.{Vec, Result, Ok, Err, IfOk, All, flat_map, position}
use Rattle.std.specs.List.{list_any}
use Rattle.std.specs.List.Sorted.{IsPermutation}
use Rattle.std.specs.Str.{bytes_eq}
use Rattle.std.proofs.lemmas.List.{get_or-map, length-map}
use Rattle.std.proofs.lemmas.List.Elements.{All-from_get_or}
use Rattle.std.proofs.lemmas.List.Folds.{list_any_none}
use Rattle.std.proofs.lemmas.Map.Keys.{apart_from_distinct}
use Rattle.std.proofs.lemmas.List.Sorted.{All-permutation, length_permutation, list_any-IsPermutation}
use Rattle.std.proofs.lemmas.List.Sums.{sum_by-cons}
use Rattle.std.proofs.lemmas.Option.{slice_get_within, get_or_from_slice_get}
use Rattle.desk_model.specs.Name.{is_name, AreAscending}
use Rattle.desk_model.specs.Book.{Book, IsBook}
use Rattle.file_rows.specs.Grouped.{TopicRows, Valued, names_of, rows_at, rows_in, row_count}
use Rattle.qrels_reader.specs.declared.limits.TheConstants.{MOST_QRELS_ROWS}
use Rattle.file_rows.proofs.Places.{at_name}
use Rattle.file_rows.proofs.Seen.{laws}
use Rattle.file_rows.proofs.Zipped.{part-le}
use Rattle.run_reader.specs.Run.{Run, rows_on_topic}
use Rattle.run_reader.specs.declared.limits.TheConstants.{MOST_RUN_ROWS}
use Rattle.topics_pool.specs.Rows.{IsBookOf, grade_in, total_rows, topic_names}
use Rattle.topic_universe.specs.Universe.{listed, retrieved, IsUniverseOf}
use Rattle.topic_universe.specs.Sorted.{Numbered}
use Rattle.topic_universe.proofs.Placing.{name_of, number_of, numbers_within, same_count}
use Rattle.topics_pool.specs.Made.{AreBooksOf, IsNumberedAfter, book_over}

-- the topic that has a name is found where it stands
pub at_number : (qrels : List TopicRows) (name : List ℕ) (t : ℕ) → position (bytes_eq name) (names_of qrels) ≡ Some t → (t < length qrels) × (rows_at qrels t ≡ rows_in name qrels)
at_number = at_name

-- a topic has no more rows than its run
rows_within : (topics : List TopicRows) (name : List ℕ) → length (rows_in name topics) ≤ row_count topics
rows_within [] name = omega arith
rows_within (x ∷ topics) name = go (bytes_eq name x.name) (rows_within topics name)
  where
    go : (b : Bool) → length (rows_in name topics) ≤ row_count topics → length (cond b x.rows (rows_in name topics)) ≤ row_count (x ∷ topics)
    go true rest = omega (arith, sum_by-cons (λ (topic : TopicRows). length topic.rows) x topics)
    go false rest = omega (arith, rest, sum_by-cons (λ (topic : TopicRows). length topic.rows) x topics)

all_rows_within : (runs : List Run) (name : List ℕ) → length (flat_map (retrieved name) runs) ≤ total_rows runs
all_rows_within [] name = omega arith
all_rows_within (run ∷ runs) name =
    let first : length (retrieved name run) ≡ length (rows_on_topic run name) = length-map (rows_on_topic run name) (λ (row : Valued). row.document) in
    let within = rows_within run.topics name in
    let rest = all_rows_within runs name in
    let joined = length-append (retrieved name run) (flat_map (retrieved name) runs) in
    omega (arith, first, within, rest, joined, sum_by-cons (λ (run : Run). row_count run.topics) run runs)

module _ (qrels : List TopicRows) (runs : List Run) (name : List ℕ) (t : ℕ) (pairs : List Numbered) (numbers : List (List ℕ)) (universe : IsUniverseOf qrels t runs name pairs numbers) where
  pub few_documents : row_count qrels ≤ MOST_QRELS_ROWS → total_rows runs ≤ MOST_RUN_ROWS → length pairs ≤ 25000000
  few_documents few rows =
      let long = same_count universe.names pairs universe.sorted in
      let parts = universe.gathered.few in
      let first = length-map (rows_at qrels t) (λ (d : Valued). d.document) in
      let part = part-le length qrels t refl in
      let rest = all_rows_within runs name in
      omega (arith, long, parts, first, part, rest, few, rows)

  pub is_book : is_name name ≡ true → row_count qrels ≤ MOST_QRELS_ROWS → total_rows runs ≤ MOST_RUN_ROWS → IsBook (book_over qrels t name (map name_of pairs))
  is_book named few rows = record {
    named = named;
    documents = All-permutation (λ each. is_name each ≡ true) universe.names (map name_of pairs) universe.sorted.moved universe.gathered.names.named;
    ascending = universe.sorted.ascending;
    small = let long = length-map pairs name_of in let most = few_documents few rows in omega (arith, long, most);
    graded = length-map (map name_of pairs) (grade_in (rows_at qrels t));
  }

  pub is_book_of : position (bytes_eq name) (names_of qrels) ≡ Some t → IsBookOf qrels runs (book_over qrels t name (map name_of pairs))
  is_book_of place = record {
    universe = λ m.
        sym (list_any-IsPermutation (bytes_eq m) universe.names (map name_of pairs) universe.sorted.moved)
        ∙ universe.gathered.same m
        ∙ ap (λ documents. list_any (bytes_eq m) (listed documents ++ flat_map (retrieved name) runs)) ((at_number qrels name t place).1);
    grades = λ doc each got.
        get_or-map (grade_in (rows_at qrels t)) (map name_of pairs) doc [] None (slice_get_within (map name_of pairs) doc each got)
        ∙ ap (grade_in (rows_at qrels t)) (get_or_from_slice_get (map name_of pairs) doc each [] got)
        ∙ ap (λ documents. grade_in documents each) ((at_number qrels name t place).1);
  }

  pub numbered_after : All (λ pair. IsNumberedAfter (rows_at qrels t) pair.0.now pair.1) pairs
  numbered_after = λ k d lt.
      let docs = rows_at qrels t in
      let name = (get_or pairs k d).0.now in
      let n = (get_or pairs k d).1 in
      let long = length-map docs (λ (d : Valued). d.document) in
      let linked : get_or universe.names n [] ≡ name = universe.sorted.linked k d lt in
      let numbered = length-map pairs number_of in
      let within : n < length universe.names = subst (λ m. m < length universe.names) (get_or-map number_of pairs k d 0 lt) (numbers_within (length universe.names) (map number_of pairs) universe.sorted.numbers k 0 (omega (arith, lt, numbered))) in
      let apart : length docs ≤ n → (i : ℕ) → i < length (listed docs) → bytes_eq name (get_or (listed docs) i []) ≡ false = λ past i below.
      ap₂ bytes_eq (sym linked) (sym (universe.gathered.kept i below)) ∙ laws.symm (get_or universe.names n []) (get_or universe.names i [])
      ∙ apart_from_distinct bytes_eq universe.names i n [] universe.gathered.names.distinct (omega (arith, past, below, long)) within in
      record {
        known = λ first. sym (universe.gathered.kept n (omega (arith, first, long))) ∙ linked;
        others = λ past. list_any_none (bytes_eq name) (listed docs) (All-from_get_or (λ each. bytes_eq name each ≡ false) (listed docs) [] (apart past));
      }

pub named_as : {T F : Type 0} (r : Result (Vec Book T) F) (xs ys : List (List ℕ)) → xs ≡ ys → IfOk r (λ books. topic_names books.items ≡ xs) → IfOk r (λ books. topic_names books.items ≡ ys)
named_as (Ok books) xs ys same h = h ∙ same
named_as (Err e) xs ys same h = tt

-- topics with the sorted names of the qrels' topics
pub are_books : {T F : Type 0} (qrels : List TopicRows) (runs : List Run) (set names : List (List ℕ)) (r : Result (Vec Book T) F) → set ≡ names_of qrels → IsPermutation set names → AreAscending names →
    IfOk r (λ books. All (λ book. IsBook book) books.items) → IfOk r (λ books. All (IsBookOf qrels runs) books.items) → IfOk r (λ books. topic_names books.items ≡ names) → IfOk r (λ books. AreBooksOf qrels runs books.items)
are_books qrels runs set names (Ok books) topics moved up sound of_rows named = record {
  sound = sound;
  of_rows = of_rows;
  ascending = subst AreAscending (sym named) up;
  topics = λ m. ap (list_any (bytes_eq m)) named ∙ sym (list_any-IsPermutation (bytes_eq m) set names moved) ∙ ap (list_any (bytes_eq m)) topics;
  count = sym (length-map books.items (λ (b : Book). b.name)) ∙ ap length named ∙ length_permutation set names moved ∙ ap length topics ∙ length-map qrels (λ (t : TopicRows). t.name);
}
are_books qrels runs set names (Err e) topics moved up sound of_rows named = tt
