-- Rows of runs that are above others by the verdicts of the first pairs.
use Rattle.std.proofs.Common.{◌≡◌, ◌⊎◌, ℕ, zero, suc, ◌+◌, ◌<◌, ◌≤◌, Bool, false, List, [], ◌∷◌, take, length, Some, ap, sym, ◌∙◌, inl, inr, arith}
use Rattle.std.specs.Prelude.{slice_get, All}
use Rattle.std.proofs.lemmas.Bool.{cases_lt}
use Rattle.std.proofs.lemmas.List.{get_or_past}
use Rattle.small_lemmas.proofs.Numbers.{less_or_last}
use Rattle.desk_model.specs.Pairs.{pairs_of}
use Rattle.desk_model.specs.declared.types.Verdict.{Verdict}
use Rattle.desk_model.specs.declared.types.Verdict.TheVariants.{Above, Below}
use Rattle.pair_table.specs.Sums.{run_numbers}
use Rattle.order_tiers.specs.Order.{HasVerdict, IsAbovePair, IsSaidAbove}
use Rattle.order_tiers.specs.Rows.{has, is_above, IsEmptyRow, IsSquare}

-- ---- rows of no runs
pub empty_square : (runs : ℕ) (rows : List (List Bool)) → runs ≤ 256 → length rows ≡ runs → All (IsEmptyRow runs) rows → IsSquare runs rows
empty_square runs rows few long empty = record { few = few; count = long; wide = λ k d lt. (empty k d lt).long }

pub empty_none : (runs : ℕ) (rows : List (List Bool)) → All (IsEmptyRow runs) rows → (a b : ℕ) → is_above rows a b ≡ false
empty_none runs rows empty a b = elim (cases_lt a (length rows)) [
  | inl inside ↦ (empty a [] inside).none b
  | inr past ↦ ap (λ row. has row b) (get_or_past rows a [] past)
]

-- ---- the first items of a list
there_taken : {X : Type 0} (n : ℕ) (xs : List X) (k : ℕ) (x : X) → slice_get (take n xs) k ≡ Some x → (k < n) × (slice_get xs k ≡ Some x)
there_taken zero xs k x e = absurd (cc)
there_taken (suc n) [] k x e = absurd (cc)
there_taken (suc n) (y ∷ xs) zero x e = (omega arith, e)
there_taken (suc n) (y ∷ xs) (suc k) x e = let rest = there_taken n xs k x e in (let lt = rest.0 in omega (arith, lt), rest.1)

taken_there : {X : Type 0} (n : ℕ) (xs : List X) (k : ℕ) (x : X) → k < n → slice_get xs k ≡ Some x → slice_get (take n xs) k ≡ Some x
taken_there zero xs k x lt e = absurd (omega (arith, lt))
taken_there (suc n) [] k x lt e = e
taken_there (suc n) (y ∷ xs) zero x lt e = e
taken_there (suc n) (y ∷ xs) (suc k) x lt e = taken_there n xs k x (omega (arith, lt)) e

same_item : {X : Type 0} (xs : List X) (k m : ℕ) (x y : X) → k ≡ m → slice_get xs k ≡ Some x → slice_get xs m ≡ Some y → x ≡ y
same_item xs k m x y same e f = let g : slice_get xs k ≡ Some y = ap (slice_get xs) same ∙ f in cc

-- ---- one pair more
module _ (runs : ℕ) (verdicts : List Verdict) (place first second : ℕ) (v : Verdict) (pair : slice_get (pairs_of (run_numbers runs)) place ≡ Some (first, second)) (said : slice_get verdicts place ≡ Some v) where
  -- the verdict of a pair is that of an earlier one, or that of this one
  split : (a b : ℕ) (w : Verdict) → HasVerdict runs (take (place + 1) verdicts) a b w → HasVerdict runs (take place verdicts) a b w ⊎ ((w ≡ v) × (a ≡ first) × (b ≡ second))
  split a b w h =
      let there = there_taken (place + 1) verdicts h.number w h.said in
      elim (less_or_last h.number place there.0) [
        | inl before ↦ inl (record { number = h.number; pair = h.pair; said = taken_there place verdicts h.number w before there.1 })
        | inr last ↦
            let both : (a, b) ≡ (first, second) = same_item (pairs_of (run_numbers runs)) h.number place (a, b) (first, second) last h.pair pair in
            inr (same_item verdicts h.number place w v last there.1 said, ap (λ (p : ℕ × ℕ). p.0) both, ap (λ (p : ℕ × ℕ). p.1) both)
      ]

  keep : (a b : ℕ) (w : Verdict) → HasVerdict runs (take place verdicts) a b w → HasVerdict runs (take (place + 1) verdicts) a b w
  keep a b w h = let there = there_taken place verdicts h.number w h.said in
      record { number = h.number; pair = h.pair; said = taken_there (place + 1) verdicts h.number w (let lt = there.0 in omega (arith, lt)) there.1 }

  this : (w : Verdict) → v ≡ w → HasVerdict runs (take (place + 1) verdicts) first second w
  this w e = record { number = place; pair = pair; said = taken_there (place + 1) verdicts place w (omega arith) (said ∙ ap Some e) }

  pub pair_more : (a b : ℕ) → IsAbovePair runs (take place verdicts) a b ⊎ IsSaidAbove first second v a b → IsAbovePair runs (take (place + 1) verdicts) a b
  pair_more a b h = elim h [
    | inl before ↦ elim before [ inl up ↦ inl (keep a b Above up) | inr down ↦ inr (keep b a Below down) ]
    | inr now ↦ elim now [
      | inl up ↦ inl (rw (up.1, up.2) (this Above up.0))
      | inr down ↦ inr (rw (down.1, down.2) (this Below down.0))
    ]
  ]

  pub pair_less : (a b : ℕ) → IsAbovePair runs (take (place + 1) verdicts) a b → IsAbovePair runs (take place verdicts) a b ⊎ IsSaidAbove first second v a b
  pair_less a b h = elim h [
    | inl up ↦ elim (split a b Above up) [ inl before ↦ inl (inl before) | inr now ↦ inr (inl (sym now.0, now.1, now.2)) ]
    | inr down ↦ elim (split b a Below down) [ inl before ↦ inl (inr before) | inr now ↦ inr (inr (sym now.0, now.2, now.1)) ]
  ]

-- no pair is among the first none
pub none_first : (runs : ℕ) (verdicts : List Verdict) (a b : ℕ) → IsAbovePair runs (take 0 verdicts) a b → ⊥
none_first runs verdicts a b h = elim h [
  | inl up ↦ let there = there_taken 0 verdicts up.number Above up.said in let lt = there.0 in omega (arith, lt)
  | inr down ↦ let there = there_taken 0 verdicts down.number Below down.said in let lt = there.0 in omega (arith, lt)
]
