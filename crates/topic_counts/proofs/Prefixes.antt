-- A document is among the first k exactly where its rank is at most k, and what one more document adds to the counts.
use Rattle.std.proofs.Common.{◌≡◌, ℕ, zero, suc, ◌+◌, ◌<◌, ◌≤◌, Bool, true, false, cond, ◌||◌, nat_eq, nat_le, List, [], ◌∷◌, take, Option, Some, None, arith, refl, ap, ◌∙◌, sym}
use Rattle.std.specs.List.{position_from}
use Rattle.std.proofs.lemmas.Bool.Decides.{nat_tests}
use Rattle.desk_model.specs.Ranking.{is_in, rank}

-- whether a rank is at most k
abbrev pub is_by : ℕ → Option ℕ → Bool
is_by k None = false
is_by k (Some r) = nat_le r k

later_step : (b : Bool) (k r : ℕ) (o : Option ℕ) → k < r → is_by k o ≡ false → is_by k (cond b (Some r) o) ≡ false
later_step true k r o h e = grind (arith, nat_tests)
later_step false k r o h e = e

later : (k r doc : ℕ) (docs : List ℕ) → k < r → is_by k (position_from (λ each. nat_eq each doc) r docs) ≡ false
later k r doc [] h = refl
later k r doc (x ∷ xs) h = later_step (nat_eq x doc) k r (position_from (λ each. nat_eq each doc) (r + 1) xs) h (later k (r + 1) doc xs (omega arith))

first_step : (b i : Bool) (m r : ℕ) (o : Option ℕ) → r ≤ m → i ≡ is_by m o → (b || i) ≡ is_by m (cond b (Some r) o)
first_step true i m r o h e = grind (arith, nat_tests)
first_step false i m r o h e = e

-- in a list whose first rank is n + 1
by_rank : (k n doc : ℕ) (docs : List ℕ) → is_in (take k docs) doc ≡ is_by (n + k) (position_from (λ each. nat_eq each doc) (n + 1) docs)
by_rank zero n doc docs = sym (later (n + 0) (n + 1) doc docs (omega arith))
by_rank (suc k) n doc [] = refl
by_rank (suc k) n doc (x ∷ xs) =
    let same : (n + 1) + k ≡ n + suc k = omega arith in
    let o = position_from (λ each. nat_eq each doc) (n + 1 + 1) xs in
    first_step (nat_eq x doc) (is_in (take k xs) doc) (n + suc k) (n + 1) o (omega arith) (by_rank k (n + 1) doc xs ∙ ap (λ m. is_by m o) same)

pub rank_by : (k doc : ℕ) (docs : List ℕ) → is_in (take k docs) doc ≡ is_by k (rank docs doc)
rank_by k doc docs = let none : 0 + k ≡ k = omega arith in by_rank k 0 doc docs ∙ ap (λ m. is_by m (rank docs doc)) none
