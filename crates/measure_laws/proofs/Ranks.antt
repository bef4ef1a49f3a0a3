-- Ranks of documents, and sums over ranks as sums over the documents of the universe.
use Rattle.std.proofs.Common.{◌≡◌, ℕ, zero, suc, ◌+◌, ◌<◌, ◌≤◌, Bool, true, false, cond, nat_eq, List, [], ◌∷◌, map, length, Option, Some, None, position, arith, refl, ap, ◌∙◌, sym, subst, inl, inr, ◌⊎◌}
use Rattle.std.specs.Prelude.{if◌then◌else◌}
use Rattle.std.specs.Option.{option_map}
use Rattle.std.specs.List.{IsDistinct, AllByRecursion, position_from, sum_by, range_with_len}
use Rattle.std.proofs.lemmas.List.Sums.{sum_by-cons}
use Rattle.std.proofs.lemmas.Iterator.Adapters.{position_from-zero}
use Rattle.std.proofs.lemmas.Bool.{eq-eqb}
use Rattle.small_lemmas.proofs.Tests.{apart_below, apart_over}
use Rattle.desk_model.specs.Ranking.{rank}
use Rattle.desk_model.specs.Score.{gained}
use Rattle.desk_model.proofs.Counts.{nat_eq-sym, nat_eq-true}
use Rattle.measure_laws.specs.Ranks.{IsRankWithin}
use Rattle.measure_laws.proofs.RecallEnds.{every}

shifted : (b : Bool) (i : ℕ) (p q : Option ℕ) → p ≡ option_map (λ n. n + 1) q → cond b (Some (i + 1)) p ≡ option_map (λ n. n + 1) (cond b (Some i) q)
shifted true i p q e = refl
shifted false i p q e = e

position_from-shift : (t : ℕ → Bool) (i : ℕ) (xs : List ℕ) → position_from t (i + 1) xs ≡ option_map (λ n. n + 1) (position_from t i xs)
position_from-shift t i [] = refl
position_from-shift t i (x ∷ xs) = shifted (t x) i (position_from t (i + 1 + 1) xs) (position_from t (i + 1) xs) (position_from-shift t (i + 1) xs)

-- the rank is one more than the place
pub rank-position : (docs : List ℕ) (doc : ℕ) → rank docs doc ≡ option_map (λ n. n + 1) (position (λ each. nat_eq each doc) docs)
rank-position docs doc = position_from-shift (λ each. nat_eq each doc) 0 docs ∙ ap (option_map (λ n. n + 1)) (sym (position_from-zero (λ each. nat_eq each doc) docs))

-- the rank from the place that was found
pub rank_from_place : (docs found : List ℕ) (doc : ℕ) (place : Option ℕ) → place ≡ position (λ each. nat_eq each doc) found → found ≡ docs → option_map (λ n. n + 1) place ≡ rank docs doc
rank_from_place docs found doc place e f =
    ap (option_map (λ n. n + 1)) e ∙ sym (rank-position found doc) ∙ ap (λ xs. rank xs doc) f

pub sum_by-agree : (f g : ℕ → ℕ) (xs : List ℕ) → AllByRecursion (λ d. f d ≡ g d) xs → sum_by f xs ≡ sum_by g xs
sum_by-agree f g [] h = refl
sum_by-agree f g (x ∷ xs) h = omega (arith, sum_by-cons f x xs, sum_by-cons g x xs, h.0, sum_by-agree f g xs h.1)

pub sum_by-plus : (f g : ℕ → ℕ) (xs : List ℕ) → sum_by (λ d. f d + g d) xs ≡ sum_by f xs + sum_by g xs
sum_by-plus f g [] = refl
sum_by-plus f g (x ∷ xs) = omega (arith, sum_by-cons f x xs, sum_by-cons g x xs, sum_by-cons (λ d. f d + g d) x xs, sum_by-plus f g xs)

sum_by-zero : (xs : List ℕ) → sum_by (λ d. 0) xs ≡ 0
sum_by-zero [] = refl
sum_by-zero (x ∷ xs) = omega (arith, sum_by-cons (λ d. 0) x xs, sum_by-zero xs)

absent : (x : ℕ) (s : ℕ) (xs : List ℕ) → AllByRecursion (λ y. nat_eq x y ≡ false) xs → position_from (λ each. nat_eq each x) s xs ≡ None
absent x s [] h = refl
absent x s (y ∷ xs) h = ap (λ b. cond b (Some s) (position_from (λ each. nat_eq each x) (s + 1) xs)) (nat_eq-sym y x ∙ h.0) ∙ absent x (s + 1) xs h.1

split : (m n : ℕ) → m ≤ n → (m ≡ n) ⊎ (m < n)
split m n h = grind arith

none_later : (g : ℕ → ℕ) (x start n : ℕ) → x < start → sum_by (λ d. if nat_eq x d then g d else 0) (range_with_len start n) ≡ 0
none_later g x start zero h = refl
none_later g x start (suc n) h =
    omega (arith, sum_by-cons (λ d. if nat_eq x d then g d else 0) start (range_with_len (start + 1) n), ap (λ b. if b then g start else 0) (apart_below x start h), none_later g x (start + 1) n (omega arith))

-- a sum in which one document alone counts
pub one_counts : (g : ℕ → ℕ) (x : ℕ) (start n : ℕ) → start ≤ x → x < start + n → sum_by (λ d. if nat_eq x d then g d else 0) (range_with_len start n) ≡ g x
one_counts g x start zero p q = absurd (omega arith)
one_counts g x start (suc n) p q = elim (split start x p) [
  | inl here ↦
      let yes' : (if nat_eq x start then g start else 0) ≡ g x = ap (λ z. if nat_eq x z then g z else 0) here ∙ ap (λ b. if b then g x else 0) (eq-eqb x x refl) in
      omega (arith, sum_by-cons (λ d. if nat_eq x d then g d else 0) start (range_with_len (start + 1) n), yes', none_later g x (start + 1) n (omega arith))
  | inr later ↦
      let no' : (if nat_eq x start then g start else 0) ≡ 0 = ap (λ b. if b then g start else 0) (apart_over x start later) in
      omega (arith, sum_by-cons (λ d. if nat_eq x d then g d else 0) start (range_with_len (start + 1) n), no', one_counts g x (start + 1) n (omega arith) (omega arith))
]

picked_term : (W : Option ℕ → ℕ) → W None ≡ 0 → (t : Bool) (e : Bool) (s : ℕ) (later : Option ℕ) → (e ≡ true → later ≡ None) →
    (if t then W (cond e (Some s) later) else 0) ≡ (if e then (if t then W (Some s) else 0) else 0) + (if t then W later else 0)
picked_term W none true true s later h = omega (arith, none, ap W (h refl))
picked_term W none true false s later h = omega arith
picked_term W none false true s later h = refl
picked_term W none false false s later h = refl

-- what the true ranks are worth is what the true documents of the universe are worth by their ranks
pub gained_by_documents : (W : Option ℕ → ℕ) → W None ≡ 0 → (t : ℕ → Bool) (s n : ℕ) (xs : List ℕ) → IsDistinct nat_eq xs → AllByRecursion (λ d. d < n) xs →
    gained (λ r. W (Some r)) s (map t xs) ≡ sum_by (λ d. if t d then W (position_from (λ each. nat_eq each d) s xs) else 0) (range_with_len 0 n)
unfolding IsDistinct
gained_by_documents W none t s n [] h k =
    sym (sum_by-agree (λ d. if t d then W None else 0) (λ d. 0) (range_with_len 0 n) (every (λ d. (if t d then W None else 0) ≡ 0) (λ d. nothing (t d)) (range_with_len 0 n)) ∙ sum_by-zero (range_with_len 0 n))
  where
    nothing : (b : Bool) → (if b then W None else 0) ≡ 0
    nothing true = none
    nothing false = refl
gained_by_documents W none t s n (x ∷ xs) h k =
    let first = λ (d : ℕ). if nat_eq x d then (if t d then W (Some s) else 0) else 0 in
    let rest = λ (d : ℕ). if t d then W (position_from (λ each. nat_eq each d) (s + 1) xs) else 0 in
    let whole : sum_by (λ d. if t d then W (cond (nat_eq x d) (Some s) (position_from (λ each. nat_eq each d) (s + 1) xs)) else 0) (range_with_len 0 n) ≡ sum_by (λ d. first d + rest d) (range_with_len 0 n) =
    sum_by-agree _ _ (range_with_len 0 n) (every _ (λ d. picked_term W none (t d) (nat_eq x d) s (position_from (λ each. nat_eq each d) (s + 1) xs) (λ e. subst (λ (y : ℕ). position_from (λ each. nat_eq each y) (s + 1) xs ≡ None) (nat_eq-true x d e) (absent x (s + 1) xs h.0))) (range_with_len 0 n)) in
    let one = one_counts (λ d. if t d then W (Some s) else 0) x 0 n (omega arith) (omega (arith, k.0)) in
    omega (arith, whole, sum_by-plus first rest (range_with_len 0 n), one, gained_by_documents W none t (s + 1) n xs h.1 k.1)

-- ---- the places of ranks
abbrev pub Between : ℕ → ℕ → Option ℕ → Type 0
Between s e None = Unit {0}
Between s e (Some r) = (s ≤ r) × (r < e)

between_step : (b : Bool) (s e : ℕ) (o : Option ℕ) → s < e → Between (s + 1) e o → Between s e (cond b (Some s) o)
between_step true s e o h k = (omega arith, h)
between_step false s e None h k = tt
between_step false s e (Some r) h k = (omega (arith, k.0), k.1)

pub position_between : (t : ℕ → Bool) (s e : ℕ) (xs : List ℕ) → s + length xs ≡ e → Between s e (position_from t s xs)
position_between t s e [] h = tt
position_between t s e (x ∷ xs) h = between_step (t x) s e (position_from t (s + 1) xs) (omega arith) (position_between t (s + 1) e xs (omega arith))

within_from : (n m : ℕ) (o : Option ℕ) → n ≤ m → Between 1 (1 + n) o → IsRankWithin m o
within_from n m None h k = tt
within_from n m (Some r) h k = (k.0, omega (arith, k.1))

pub rank_within : (docs : List ℕ) (m d : ℕ) → length docs ≤ m → IsRankWithin m (rank docs d)
rank_within docs m d h = within_from (length docs) m (rank docs d) h (position_between (λ each. nat_eq each d) 1 (1 + length docs) docs refl)
