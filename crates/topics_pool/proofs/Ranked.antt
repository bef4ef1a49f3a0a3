-- What a run ranks.
use Rattle.std.proofs.Common.{◌≡◌, ◌≢◌, ℕ, suc, set, below_more, ◌+◌, ◌<◌, ◌≤◌, Bool, true, false, true≢false, nat_eq, List, [], ◌∷◌, ◌++◌, length, get_or, map, refl, ap, sym, ◌∙◌, subst, arith}
use Rattle.std.specs.Prelude.{All, slice_get, Some}
use Rattle.std.proofs.lemmas.Option.{slice_get_within, get_or_from_slice_get}
use Rattle.std.specs.List.{AllZip, AllByRecursion, IsDistinct}
use Rattle.std.specs.Str.{bytes_eq}
use Rattle.std.proofs.lemmas.Bool.Decides.{nat_tests}
use Rattle.std.proofs.lemmas.List.{length-map, get_or-set_other, get_or-set_same}
use Rattle.std.proofs.lemmas.List.Sorted.{length_permutation}
use Rattle.std.proofs.lemmas.Map.Keys.{IsDistinct-IsPermutation}
use Rattle.desk_model.specs.Book.{Book}
use Rattle.desk_model.specs.Ranking.{IsRanking}
use Rattle.file_rows.proofs.Seen.{laws}
use Rattle.run_reader.specs.Run.{Run, rows_on_topic}
use Rattle.file_rows.specs.Grouped.{Valued}
use Rattle.run_reader.specs.declared.limits.TheConstants.{MOST_RANKS}
use Rattle.topic_universe.specs.Order.{IsTrecOrder}
use Rattle.topic_universe.specs.Universe.{retrieved}
use Rattle.topic_universe.proofs.Numbers.{ranked_documents}
use Rattle.topic_universe.proofs.Zips.{AllZip-end}
use Rattle.topics_pool.specs.Rows.{doc_names}
use Rattle.topics_pool.specs.Made.{IsRankingOf, AreRankingsOf, IsOneMore, HaveOneMore}
use Rattle.desk_model.proofs.Nested.{zipped_at, length-zipped}

-- numbers whose names differ differ
distinct_numbers : (f : ℕ → List ℕ) (docs : List ℕ) → IsDistinct bytes_eq (map f docs) → IsDistinct nat_eq docs
unfolding IsDistinct
distinct_numbers f [] h = tt
distinct_numbers f (d ∷ docs) h = (apart docs h.0, distinct_numbers f docs h.1)
  where
    apart : (ds : List ℕ) → AllByRecursion (λ y. bytes_eq (f d) y ≡ false) (map f ds) → AllByRecursion (λ y. nat_eq d y ≡ false) ds
    apart [] h = tt
    apart (e ∷ ds) h = (differs e h.0, apart ds h.1)
      where
        differs : (e : ℕ) → bytes_eq (f d) (f e) ≡ false → nat_eq d e ≡ false
        differs e h = go (nat_eq d e) refl
          where
            go : (b : Bool) → nat_eq d e ≡ b → nat_eq d e ≡ false
            go false t = t
            go true t =
                let same : d ≡ e = grind (arith, nat_tests) in
                absurd (true≢false (sym (laws.refl (f d)) ∙ ap (λ n. bytes_eq (f d) (f n)) same ∙ h))

pub is_ranking : (run : Run) (book : Book) (names : List (List ℕ)) (docs : List ℕ) → IsTrecOrder (rows_on_topic run book.name) names → doc_names book docs ≡ names → All (λ doc. doc < length book.docs) docs →
    IsDistinct bytes_eq (retrieved book.name run) → length (rows_on_topic run book.name) ≤ MOST_RANKS → IsRanking (length book.docs) docs
is_ranking run book names docs order named within distinct few =
    let moved = ranked_documents (rows_on_topic run book.name) names order in
    let differ = IsDistinct-IsPermutation bytes_eq laws.symm (retrieved book.name run) names moved distinct in
    let long = length_permutation (retrieved book.name run) names moved in
    let rows = length-map (rows_on_topic run book.name) (λ (row : Valued). row.document) in
    let numbers = ap length named in
    let same = length-map docs (λ doc. get_or book.docs doc []) in
    record {
      distinct = distinct_numbers (λ doc. get_or book.docs doc []) docs (subst (IsDistinct bytes_eq) (sym named) differ);
      within = within;
      short = omega (arith, long, rows, numbers, same, few);
    }

-- ---- one more topic
-- the runs before one have one more ranking, that of a topic, and the others have what they had
pub record AreRankedBefore (r : ℕ) (runs : List Run) (book : Book) (old new : List (List (List ℕ))) : Type 0 where
  pub ranked : (k : ℕ) (run : Run) → k < r → slice_get runs k ≡ Some run → IsOneMore run book (get_or old k []) (get_or new k [])
  pub rest : (k : ℕ) → r ≤ k → get_or new k [] ≡ get_or old k []

pub ranked_step : (r : ℕ) (runs : List Run) (book : Book) (old now new : List (List (List ℕ))) (run : Run) (docs : List ℕ) → AreRankedBefore r runs book old now → r < length now → r < length runs → run ≡ get_or runs r run →
    IsRankingOf run book docs → new ≡ set now r (get_or now r [] ++ docs ∷ []) → AreRankedBefore (r + 1) runs book old new
ranked_step r runs book old now new run docs before within known is ranking pushed = record {
  ranked = λ k each lt got.
      below_more (λ k. (each : Run) → slice_get runs k ≡ Some each → IsOneMore each book (get_or old k []) (get_or new k [])) r
      (λ k below each got. subst (IsOneMore each book (get_or old k [])) (sym (kept k (omega arith))) (before.ranked k each below got))
      (λ each got. record { docs = docs; ranking = subst (λ (one : Run). IsRankingOf one book docs) (this each got) ranking; added = here })
      k lt each got;
  rest = λ k le. kept k (omega arith) ∙ before.rest k (omega arith);
}
  where
    kept : (k : ℕ) → k ≢ r → get_or new k [] ≡ get_or now k []
    kept k other = ap (λ all. get_or all k []) pushed ∙ get_or-set_other now r k (get_or now r [] ++ docs ∷ []) [] other

    here : get_or new r [] ≡ get_or old r [] ++ docs ∷ []
    here = ap (λ all. get_or all r []) pushed ∙ get_or-set_same now r (get_or now r [] ++ docs ∷ []) [] within ∙ ap (λ per. per ++ docs ∷ []) (before.rest r (omega arith))

    this : (each : Run) → slice_get runs r ≡ Some each → run ≡ each
    this each got = is ∙ get_or_from_slice_get runs r each run got

pub all_ranked : (r : ℕ) (runs : List Run) (book : Book) (old new : List (List (List ℕ))) → AreRankedBefore r runs book old new → length runs ≤ r → HaveOneMore runs book old new
all_ranked r runs book old new before past k run got = let within = slice_get_within runs k run got in before.ranked k run (omega arith) got

-- what relates each to the one at its number relates the lists
zipped_from : {A : Type 0} (R : A → List (List ℕ) → Type 0) (xs : List A) (ys : List (List (List ℕ))) → length ys ≡ length xs → ((k : ℕ) (x : A) → slice_get xs k ≡ Some x → R x (get_or ys k [])) → AllZip R xs ys
zipped_from R [] [] long h = tt
zipped_from R [] (y ∷ ys) long h = absurd (omega arith)
zipped_from R (x ∷ xs) [] long h = absurd (omega arith)
zipped_from R (x ∷ xs) (y ∷ ys) long h = (h 0 x refl, zipped_from R xs ys (omega arith) (λ k z got. h (suc k) z got))

pub topic_step : (runs : List Run) (books : List Book) (book : Book) (old new : List (List (List ℕ))) → AllZip (AreRankingsOf books) runs old → length new ≡ length old → HaveOneMore runs book old new → AllZip (AreRankingsOf (books ++ book ∷ [])) runs new
topic_step runs books book old new before long more =
    zipped_from (AreRankingsOf (books ++ book ∷ [])) runs new (long ∙ length-zipped (AreRankingsOf books) runs old before) (λ k run got.
    let one = more k run got in
    subst (AllZip (IsRankingOf run) (books ++ book ∷ [])) (sym one.added) (AllZip-end (IsRankingOf run) books (get_or old k []) book one.docs (zipped_at (AreRankingsOf books) runs old k run [] before got) one.ranking))
