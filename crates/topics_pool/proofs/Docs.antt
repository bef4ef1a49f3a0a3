-- Numbers of names become numbers of documents.
use Rattle.std.proofs.Common.{◌≡◌, ℕ, ◌<◌, List, [], ◌∷◌, length, get_or, map, refl, ap, ap₂, sym, ◌∙◌, subst, arith}
use Rattle.std.specs.Prelude.{slice_index, All}
use Rattle.std.proofs.lemmas.List.{length-map}
use Rattle.std.proofs.lemmas.List.Elements.{All-head, All-tail, All-map, All-weaker}
use Rattle.desk_model.specs.Book.{Book}
use Rattle.run_reader.specs.Run.{Run, rows_on_topic}
use Rattle.topic_universe.specs.Order.{IsTrecOrder}
use Rattle.topic_universe.specs.Names.{numbered_names}
use Rattle.topics_pool.specs.Rows.{doc_names}
use Rattle.topic_universe.specs.Universe.{AreRankedNumbers}
use Rattle.topics_pool.specs.Made.{AreDocsOf}
use Rattle.topic_universe.specs.Sorted.{Numbered, AreSorted, IsPlaceOf}
use Rattle.topic_universe.proofs.Placing.{name_of, stands_there, same_count}

module _ (names : List (List ℕ)) (pairs : List Numbered) (places : List ℕ) (book : Book) (are : AreSorted names pairs) (has : book.docs ≡ map name_of pairs) (count : length places ≡ length pairs)
    (placed : (n : ℕ) → n < length pairs → IsPlaceOf pairs n (get_or places n 0))
  where
    placed_within : (n : ℕ) → n < length names → IsPlaceOf pairs n (get_or places n 0)
    placed_within n lt = let long = same_count names pairs are in placed n (omega (arith, lt, long))

    renamed_docs : (numbers : List ℕ) → All (λ n. n < length names) numbers → doc_names book (map (slice_index places) numbers) ≡ numbered_names names numbers
    renamed_docs [] within = refl
    renamed_docs (n ∷ numbers) within =
        ap₂ (λ (x : List ℕ) (xs : List (List ℕ)). x ∷ xs)
        (ap (λ docs. get_or docs (get_or places n 0) []) has ∙ stands_there names pairs n (get_or places n 0) are (placed_within n (All-head (λ n. n < length names) n numbers within)))
        (renamed_docs numbers (All-tail (λ n. n < length names) n numbers within))

    pub are_docs : (run : Run) (topic : List ℕ) (numbers : List ℕ) → book.name ≡ topic → AreRankedNumbers names (rows_on_topic run topic) numbers → AreDocsOf run book places numbers
    are_docs run topic numbers named each = record {
      known = All-weaker (λ n. n < length names) (λ n. n < length places) (λ n lt. let long = same_count names pairs are in omega (arith, lt, long, count)) numbers each.within;
      within = All-map (λ doc. doc < length book.docs) (slice_index places) numbers (All-weaker (λ n. n < length names) (λ n. slice_index places n < length book.docs) (λ n lt.
          let docs = ap length has ∙ length-map pairs name_of in
          let place = (placed_within n lt).within in
          omega (arith, docs, place)) numbers each.within);
      order = subst (λ name. IsTrecOrder (rows_on_topic run name) (doc_names book (map (slice_index places) numbers))) (sym named) (subst (IsTrecOrder (rows_on_topic run topic)) (sym (renamed_docs numbers each.within)) each.order);
    }
