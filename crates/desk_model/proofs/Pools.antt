-- What is counted of a pool.
use Rattle.std.proofs.Common.{◌≡◌, ℕ, zero, suc, ◌+◌, ◌≤◌, Bool, true, false, cond, nat_eq, nat_lt, List, [], ◌∷◌, ◌++◌, length, take, Some, refl, ap, ap₂, sym, ◌∙◌, length-append, arith}
use Rattle.std.specs.Prelude.{◌||◌, nat_le, not, filter}
use Rattle.std.specs.List.{range_with_len, position_from, count_by}
use Rattle.std.proofs.lemmas.Bool.Decides.{nat_tests}
use Rattle.std.proofs.lemmas.List.{map-id}
use Rattle.std.proofs.lemmas.List.FromFn.{length-range_with_len, filter_of_map_range_with_len_more}
use Rattle.std.proofs.lemmas.List.Sums.{length-filter, count_by-le-length, sum_by-append, sum_by-cons}
use Rattle.desk_model.specs.Ranking.{is_in, rank}
use Rattle.desk_model.specs.Mark.{is_unjudged, mark_at}
use Rattle.desk_model.specs.declared.types.Mark.{Mark}
use Rattle.desk_model.specs.Pool.{IsCountOf, is_relevant}
use Rattle.desk_model.specs.declared.pool.PoolCount.{PoolCount}

-- ---- ranks and depths
ranks_from : (docs : List ℕ) (doc n r : ℕ) → position_from (λ each. nat_eq each doc) n docs ≡ Some r → n ≤ r
ranks_from [] doc n r h = absurd (cc)
ranks_from (d ∷ docs) doc n r h = go (nat_eq d doc) refl (ranks_from docs doc (n + 1) r)
  where
    go : (b : Bool) → nat_eq d doc ≡ b → (position_from (λ each. nat_eq each doc) (n + 1) docs ≡ Some r → n + 1 ≤ r) → n ≤ r
    go true e later = let is : Some n ≡ Some r = rw e at h in let same : n ≡ r = cc in omega (arith, same)
    go false e later = let rest = later (rw e at h) in omega (arith, rest)

ranked-from : (docs : List ℕ) (doc n depth r : ℕ) → position_from (λ each. nat_eq each doc) n docs ≡ Some r → nat_lt r (n + depth) ≡ is_in (take depth docs) doc
ranked-from [] doc n depth r h = absurd (cc)
ranked-from (d ∷ docs) doc n zero r h = let least = ranks_from (d ∷ docs) doc n r h in grind (arith, nat_tests, least)
ranked-from (d ∷ docs) doc n (suc depth) r h = go (nat_eq d doc) refl (ranked-from docs doc (n + 1) depth r)
  where
    go : (b : Bool) → nat_eq d doc ≡ b → (position_from (λ each. nat_eq each doc) (n + 1) docs ≡ Some r → nat_lt r (n + 1 + depth) ≡ is_in (take depth docs) doc) → nat_lt r (n + suc depth) ≡ (nat_eq d doc || is_in (take depth docs) doc)
    go true e later =
        let is : Some n ≡ Some r = rw e at h in
        let same : n ≡ r = cc in
        let below : nat_lt r (n + suc depth) ≡ true = grind (arith, nat_tests, same) in
        below ∙ sym (ap (λ b. b || is_in (take depth docs) doc) e)
    go false e later =
        let shift : n + suc depth ≡ n + 1 + depth = omega arith in
        ap (nat_lt r) shift ∙ later (rw e at h) ∙ sym (ap (λ b. b || is_in (take depth docs) doc) e)

pub ranked_in : (docs : List ℕ) (doc depth r : ℕ) → rank docs doc ≡ Some r → nat_le r depth ≡ is_in (take depth docs) doc
ranked_in docs doc depth r h = let same : nat_le r depth ≡ nat_lt r (1 + depth) = grind (arith, nat_tests) in same ∙ ranked-from docs doc 1 depth r h

-- ---- counts
pub filter_next : (p : ℕ → Bool) (n : ℕ) (b : Bool) → p n ≡ b → filter p (range_with_len 0 (n + 1)) ≡ filter p (range_with_len 0 n) ++ cond b (n ∷ []) []
filter_next p n b is =
    ap (filter p) (sym (map-id (range_with_len 0 (n + 1))))
    ∙ filter_of_map_range_with_len_more p (λ k. k) 0 n n (omega arith)
    ∙ ap₂ (λ ks c. filter p ks ++ cond c (n ∷ []) []) (map-id (range_with_len 0 n)) is

pub filter_few : (p : ℕ → Bool) (n : ℕ) → length (filter p (range_with_len 0 n)) ≤ n
filter_few p n =
    omega (arith, length-filter p (range_with_len 0 n), count_by-le-length p (range_with_len 0 n), length-range_with_len 0 n)

count-push : (q : ℕ → Bool) (docs : List ℕ) (doc : ℕ) → count_by q (docs ++ doc ∷ []) ≡ count_by q docs + cond (q doc) 1 0
count-push q docs doc = let joined = sum_by-append (λ d. cond (q d) 1 0) docs (doc ∷ []) in let last = sum_by-cons (λ d. cond (q d) 1 0) doc [] in omega (arith, joined, last)

pub counted : (docs : List ℕ) (marks : List Mark) (count count' : PoolCount) (doc : ℕ) → IsCountOf docs marks count → count'.size ≡ count.size + 1 → count'.judged ≡ count.judged + cond (not (is_unjudged (mark_at marks doc))) 1 0 →
    count'.relevant ≡ count.relevant + cond (is_relevant (mark_at marks doc)) 1 0 → count'.unjudged ≡ count.unjudged + cond (is_unjudged (mark_at marks doc)) 1 0 → IsCountOf (docs ++ doc ∷ []) marks count'
counted docs marks count count' doc is size judged relevant unjudged = record {
  size = size ∙ ap (λ n. n + 1) is.size ∙ sym (length-push docs doc);
  judged = judged ∙ ap (λ n. n + cond (not (is_unjudged (mark_at marks doc))) 1 0) is.judged ∙ sym (count-push (λ d. not (is_unjudged (mark_at marks d))) docs doc);
  relevant = relevant ∙ ap (λ n. n + cond (is_relevant (mark_at marks doc)) 1 0) is.relevant ∙ sym (count-push (λ d. is_relevant (mark_at marks d)) docs doc);
  unjudged = unjudged ∙ ap (λ n. n + cond (is_unjudged (mark_at marks doc)) 1 0) is.unjudged ∙ sym (count-push (λ d. is_unjudged (mark_at marks d)) docs doc);
}
  where
    length-push : (docs : List ℕ) (doc : ℕ) → length (docs ++ doc ∷ []) ≡ length docs + 1
    length-push docs doc = length-append docs (doc ∷ [])
