-- How many runs are above two runs of which one is above the other.
use Rattle.std.proofs.Common.{◌≡◌, ℕ, zero, suc, ◌<◌, ◌≤◌, Bool, true, false, true≢false, cond, List, [], ◌∷◌, length, get_or, count_by, refl, ap, sym, ◌∙◌, arith, inl, inr}
use Rattle.std.proofs.lemmas.List.{get_or_default}
use Rattle.std.proofs.lemmas.List.Sums.{sum_by-cons}
use Rattle.order_tiers.specs.Rows.{has, is_above, count_above, IsStrictOrder}
use Rattle.order_tiers.proofs.Tests.{true_or_false}
use Rattle.order_tiers.proofs.Writing.{is_run}

module _ {X : Type 0} (p q : X → Bool) where
  one : (b c : Bool) → (b ≡ true → c ≡ true) → cond b 1 0 ≤ cond c 1 0
  one true true h = omega arith
  one true false h = absurd (true≢false (sym (h refl)))
  one false true h = omega arith
  one false false h = omega arith

  pub count_no_more : (xs : List X) → ((k : ℕ) (d : X) → k < length xs → p (get_or xs k d) ≡ true → q (get_or xs k d) ≡ true) → count_by p xs ≤ count_by q xs
  count_no_more [] h = omega arith
  count_no_more (x ∷ xs) h =
      let here = one (p x) (q x) (h 0 x (omega arith)) in
      let rest = count_no_more xs (λ k d lt. h (suc k) d (omega (arith, lt))) in
      omega (arith, here, rest, sum_by-cons (λ z. cond (p z) 1 0) x xs, sum_by-cons (λ z. cond (q z) 1 0) x xs)

  pub count_less : (xs : List X) → ((k : ℕ) (d : X) → k < length xs → p (get_or xs k d) ≡ true → q (get_or xs k d) ≡ true) → (k : ℕ) (d : X) → k < length xs → q (get_or xs k d) ≡ true → p (get_or xs k d) ≡ false → count_by p xs < count_by q xs
  count_less [] h k d lt here_yes here_no = absurd (omega (arith, lt))
  count_less (x ∷ xs) h zero d lt here_yes here_no =
      let rest = count_no_more xs (λ k d lt. h (suc k) d (omega (arith, lt))) in
      let zero_of : ℕ = cond (p x) 1 0 in let first : zero_of ≡ 0 = ap (λ b. cond b 1 0) here_no in
      let one_of : ℕ = cond (q x) 1 0 in let second : one_of ≡ 1 = ap (λ b. cond b 1 0) here_yes in
      omega (arith, first, second, rest, sum_by-cons (λ z. cond (p z) 1 0) x xs, sum_by-cons (λ z. cond (q z) 1 0) x xs)
  count_less (x ∷ xs) h (suc k) d lt here_yes here_no =
      let here = one (p x) (q x) (h 0 x (omega arith)) in
      let rest = count_less xs (λ k d lt. h (suc k) d (omega (arith, lt))) k d (omega (arith, lt)) here_yes here_no in
      omega (arith, here, rest, sum_by-cons (λ z. cond (p z) 1 0) x xs, sum_by-cons (λ z. cond (q z) 1 0) x xs)

-- fewer runs are above the first of two than above the second
pub fewer_above : (rows : List (List Bool)) (a b : ℕ) → IsStrictOrder rows → is_above rows a b ≡ true → count_above rows a < count_above rows b
fewer_above rows a b strict above =
    count_less (λ row. has row a) (λ row. has row b) rows other a [] (is_run rows a b above) above not_itself
  where
    not_itself : is_above rows a a ≡ false
    not_itself = elim (true_or_false (is_above rows a a)) [ inl yes_ ↦ absurd (strict.never a yes_) | inr no_ ↦ no_ ]

    other : (k : ℕ) (d : List Bool) → k < length rows → has (get_or rows k d) a ≡ true → has (get_or rows k d) b ≡ true
    other k d lt e =
        let same : get_or rows k d ≡ get_or rows k [] = get_or_default rows k d [] lt in
        ap (λ row. has row b) same ∙ strict.leads k a b (sym (ap (λ row. has row a) same) ∙ e) above

pub count_within : {X : Type 0} (p : X → Bool) (xs : List X) → count_by p xs ≤ length xs
count_within p [] = omega arith
count_within p (x ∷ xs) = let rest = count_within p xs in omega (arith, rest, sum_by-cons (λ z. cond (p z) 1 0) x xs, at_most (p x))
  where
    at_most : (b : Bool) → cond b 1 0 ≤ 1
    at_most true = omega arith
    at_most false = omega arith
