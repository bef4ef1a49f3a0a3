-- Places in two lists that ascend by document, as a walk goes over both.
use Rattle.std.proofs.Common.{◌≡◌, ℕ, zero, suc, ◌+◌, ◌<◌, ◌≤◌, Bool, true, false, cond, nat_eq, nat_le, List, [], ◌∷◌, drop, length, slice_index_or, Option, Some, None, arith, refl, ap, ◌∙◌, sym, subst}
use Rattle.std.specs.Prelude.{if◌then◌else◌}
use Rattle.std.specs.List.{AllByRecursion, position_from}
use Rattle.std.proofs.lemmas.List.Elements.{recursion_from_All}
use Rattle.std.proofs.lemmas.Bool.Decides.{nat_tests}
use Rattle.std.proofs.lemmas.Bool.{eq-eqb}
use Rattle.desk_model.specs.Placed.{lookup, IsAscending}
use Rattle.desk_model.specs.Ranking.{IsRanking, rank}
use Rattle.desk_model.specs.declared.placed.Placed.{Placed}
use Rattle.desk_model.proofs.Counts.{one_if, nat_eq-true}
use Rattle.measure_laws.specs.Ranks.{IsRankWithin}
use Rattle.topic_counts.proofs.Merge.{absent_below}
use Rattle.measure_laws.proofs.Ranks.{rank_within}

-- ---- tests of two numbers
pub even : (m n : ℕ) → nat_le m n ≡ true → nat_le n m ≡ true → m ≡ n
even m n h k = grind (arith, nat_tests)

pub neither : (m n : ℕ) → nat_le m n ≡ false → nat_le n m ≡ false → m < m
neither m n h k = grind (arith, nat_tests)

-- ---- lists from a place on
pub IsAscending-drop : (i : ℕ) (es : List Placed) → IsAscending es → IsAscending (drop i es)
IsAscending-drop zero es h = h
IsAscending-drop (suc i) [] h = tt
IsAscending-drop (suc i) (e ∷ es) h = IsAscending-drop i es h.1

pub at_place : (P : Placed → Type 0) (i : ℕ) (es : List Placed) (d : Placed) → i < length es → AllByRecursion P es → P (slice_index_or es i d)
at_place P i [] d h k = absurd (omega arith)
at_place P zero (e ∷ es) d h k = k.0
at_place P (suc i) (e ∷ es) d h k = at_place P i es d (omega arith) k.1

pub stepped : (i : ℕ) (es : List Placed) (b : Bool) → (if b then drop (suc i) es else drop i es) ≡ drop (i + (if b then 1 else 0)) es
stepped i es true = let next : suc i ≡ i + 1 = omega arith in ap (λ m. drop m es) next
stepped i es false = let same : i ≡ i + 0 = omega arith in ap (λ m. drop m es) same

-- the walk goes on
pub goes_on : (m n : ℕ) → 1 ≤ one_if (nat_le m n) + one_if (nat_le n m)
goes_on m n = at (nat_le m n) (nat_le n m) refl refl
  where
    at : (b c : Bool) → nat_le m n ≡ b → nat_le n m ≡ c → 1 ≤ one_if b + one_if c
    at true c eb ec = omega arith
    at false true eb ec = omega arith
    at false false eb ec = absurd (omega (arith, neither m n eb ec))

pub one_at_most : (b : Bool) → one_if b ≤ 1
one_at_most true = omega arith
one_at_most false = omega arith

-- ---- the documents of the lists
ranked_step : (n d r s x : ℕ) (later : Option ℕ) → x < n → (later ≡ Some r → d < n) → (b : Bool) → nat_eq x d ≡ b → cond b (Some s) later ≡ Some r → d < n
ranked_step n d r s x later h k true t f = subst (λ (z : ℕ). z < n) (nat_eq-true x d t) h
ranked_step n d r s x later h k false t f = k f

pub ranked_within : (n d r s : ℕ) (docs : List ℕ) → AllByRecursion (λ x. x < n) docs → position_from (λ each. nat_eq each d) s docs ≡ Some r → d < n
ranked_within n d r s [] h e = absurd (cc)
ranked_within n d r s (x ∷ xs) h e = ranked_step n d r s x (position_from (λ each. nat_eq each d) (s + 1) xs) h.0 (ranked_within n d r (s + 1) xs h.1) (nat_eq x d) refl e

entries_within : (n : ℕ) (es : List Placed) → ((d r : ℕ) → lookup es d ≡ Some r → d < n) → AllByRecursion (λ (e : Placed). e.doc < n) es
entries_within n [] h = tt
entries_within n (e ∷ es) h =
    (h e.doc e.rank (ap (λ (b : Bool). if b then Some e.rank else lookup es e.doc) (eq-eqb e.doc e.doc refl)), entries_within n es (λ d r k. at d r k (nat_eq e.doc d) refl))
  where
    at : (d r : ℕ) → lookup es d ≡ Some r → (b : Bool) → nat_eq e.doc d ≡ b → d < n
    at d r k true t = h d e.rank (ap (λ (b : Bool). if b then Some e.rank else lookup es d) t)
    at d r k false t = h d r (ap (λ (b : Bool). if b then Some e.rank else lookup es d) t ∙ k)

pub list_within : (n : ℕ) (a : List ℕ) (es : List Placed) → IsRanking n a → ((d : ℕ) → lookup es d ≡ rank a d) → AllByRecursion (λ (e : Placed). e.doc < n) es
list_within n a es ra h = entries_within n es (λ d r k. ranked_within n d r 1 a (recursion_from_All (λ x. x < n) a ra.within) (sym (h d) ∙ k))

-- every rank in a list is one that the list has for a document
pub ranks_within : (es : List Placed) → IsAscending es → ((d : ℕ) → IsRankWithin 10000 (lookup es d)) → AllByRecursion (λ (e : Placed). IsRankWithin 10000 (Some e.rank)) es
ranks_within [] h k = tt
ranks_within (e ∷ es) h k =
    (subst (IsRankWithin 10000) (ap (λ (b : Bool). if b then Some e.rank else lookup es e.doc) (eq-eqb e.doc e.doc refl)) (k e.doc), ranks_within es h.1 (λ d. at d (nat_eq e.doc d) refl))
  where
    at : (d : ℕ) (b : Bool) → nat_eq e.doc d ≡ b → IsRankWithin 10000 (lookup es d)
    at d true t = subst (IsRankWithin 10000) (sym (subst (λ (z : ℕ). lookup es z ≡ None) (nat_eq-true e.doc d t) (absent_below e.doc es h.0))) tt
    at d false t = subst (IsRankWithin 10000) (ap (λ (b : Bool). if b then Some e.rank else lookup es d) t) (k d)

pub list_ranks : (docs : List ℕ) (es : List Placed) → length docs ≤ 10000 → IsAscending es → ((d : ℕ) → lookup es d ≡ rank docs d) → AllByRecursion (λ (e : Placed). IsRankWithin 10000 (Some e.rank)) es
list_ranks docs es short h k = ranks_within es h (λ d. subst (IsRankWithin 10000) (sym (k d)) (rank_within docs 10000 d short))
