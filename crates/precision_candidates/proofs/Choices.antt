-- The best of all candidates is the one that the bounds of a run are made of.
use Rattle.std.proofs.Common.{◌≡◌, ℕ, zero, suc, ◌+◌, ◌-◌, ◌<◌, ◌≤◌, nat_lt, Bool, true, false, List, length, ap, refl, sym, subst, ◌∙◌, inl, inr, arith}
use Rattle.std.specs.Prelude.{if◌then◌else◌}
use Rattle.std.specs.List.{range_with_len}
use Rattle.std.proofs.lemmas.Bool.{cases_lt, ltb-true, ltb-false}
use Rattle.desk_model.specs.Ranking.{IsRanking}
use Rattle.desk_model.specs.declared.types.Mark.{Mark}
use Rattle.measure_laws.specs.Parts.{low_average, high_average}
use Rattle.measure_laws.specs.Candidates.{open_docs, high_truth, low_truth, first_smallest, first_greatest, low_choice, high_choice, average_bound_lo}
use Rattle.measure_laws.proofs.AverageBounds.{bound_hi_is}
use Rattle.precision_candidates.specs.declared.choice.Choice.{Choice}
use Rattle.precision_candidates.specs.Firsts.{IsFirstSmallest, IsFirstGreatest, IsBestOf}
use Rattle.precision_candidates.specs.Side.{number_of, IsChosen}

upto_more : (P : ℕ → Type 0) (n : ℕ) → ((k : ℕ) → k ≤ n → P k) → P (n + 1) → (k : ℕ) → k ≤ n + 1 → P k
upto_more P n h last k le = elim (cases_lt k (n + 1)) [
  | inl less ↦ h k (omega (arith, less))
  | inr more ↦ let same : n + 1 ≡ k = omega (arith, le, more) in subst P same last
]

-- ---- the property with one holder
pub smallest_one : (number : ℕ → ℕ) (u s t : ℕ) → IsFirstSmallest number u s → IsFirstSmallest number u t → s ≡ t
smallest_one number u s t h k = elim (cases_lt s t) [
  | inl less ↦ absurd (omega (arith, k.first s less, h.least t k.within))
  | inr more ↦ elim (cases_lt t s) [
    | inl less ↦ absurd (omega (arith, h.first t less, k.least s h.within))
    | inr even ↦ omega (arith, more, even)
  ]
]

pub greatest_one : (number : ℕ → ℕ) (u s t : ℕ) → IsFirstGreatest number u s → IsFirstGreatest number u t → s ≡ t
greatest_one number u s t h k = elim (cases_lt s t) [
  | inl less ↦ absurd (omega (arith, k.first s less, h.most t k.within))
  | inr more ↦ elim (cases_lt t s) [
    | inl less ↦ absurd (omega (arith, h.first t less, k.most s h.within))
    | inr even ↦ omega (arith, more, even)
  ]
]

-- ---- the first of a list is one
smallest_next : (number : ℕ → ℕ) (last best : ℕ) (b : Bool) → nat_lt (number (last + 1)) (number best) ≡ b → IsFirstSmallest number last best → IsFirstSmallest number (last + 1) (if b then last + 1 else best)
smallest_next number last best true e h =
    let less = ltb-true (number (last + 1)) (number best) e in
    record {
      within = omega arith;
      least = upto_more (λ k. number (last + 1) ≤ number k) last (λ k le. omega (arith, less, h.least k le)) (omega arith);
      first = λ k lt. omega (arith, less, h.least k (omega (arith, lt)));
    }
smallest_next number last best false e h =
    let more = ltb-false (number (last + 1)) (number best) e in
    record {
      within = omega (arith, h.within);
      least = upto_more (λ k. number best ≤ number k) last h.least (omega (arith, more));
      first = h.first;
    }

smallest_all : (number : ℕ → ℕ) (n last best : ℕ) → IsFirstSmallest number last best → IsFirstSmallest number (last + n) (first_smallest number best (range_with_len (last + 1) n))
smallest_all number zero last best h = let same : last ≡ last + zero = omega arith in subst (λ (k : ℕ). IsFirstSmallest number k best) same h
smallest_all number (suc n) last best h =
    let b = nat_lt (number (last + 1)) (number best) in
    let same : last + 1 + n ≡ last + suc n = omega arith in
    subst (λ (k : ℕ). IsFirstSmallest number k (first_smallest number (if b then last + 1 else best) (range_with_len (last + 1 + 1) n))) same
    (smallest_all number n (last + 1) (if b then last + 1 else best) (smallest_next number last best b refl h))

zero_most : (k : ℕ) → k ≤ 0 → 0 ≡ k
zero_most k h = omega (arith, h)

pub smallest_is : (number : ℕ → ℕ) (u : ℕ) → IsFirstSmallest number u (first_smallest number 0 (range_with_len 1 u))
smallest_is number u = let same : 0 + u ≡ u = omega arith in subst (λ (n : ℕ). IsFirstSmallest number n (first_smallest number 0 (range_with_len 1 u))) same (smallest_all number u 0 0 (record {
  within = omega arith;
  least = λ k h. subst (λ (n : ℕ). number 0 ≤ number n) (zero_most k h) (omega arith);
  first = λ k h. absurd (omega (arith, h));
}))

greatest_next : (number : ℕ → ℕ) (last best : ℕ) (b : Bool) → nat_lt (number best) (number (last + 1)) ≡ b → IsFirstGreatest number last best → IsFirstGreatest number (last + 1) (if b then last + 1 else best)
greatest_next number last best true e h =
    let less = ltb-true (number best) (number (last + 1)) e in
    record {
      within = omega arith;
      most = upto_more (λ k. number k ≤ number (last + 1)) last (λ k le. omega (arith, less, h.most k le)) (omega arith);
      first = λ k lt. omega (arith, less, h.most k (omega (arith, lt)));
    }
greatest_next number last best false e h =
    let more = ltb-false (number best) (number (last + 1)) e in
    record {
      within = omega (arith, h.within);
      most = upto_more (λ k. number k ≤ number best) last h.most (omega (arith, more));
      first = h.first;
    }

greatest_all : (number : ℕ → ℕ) (n last best : ℕ) → IsFirstGreatest number last best → IsFirstGreatest number (last + n) (first_greatest number best (range_with_len (last + 1) n))
greatest_all number zero last best h = let same : last ≡ last + zero = omega arith in subst (λ (k : ℕ). IsFirstGreatest number k best) same h
greatest_all number (suc n) last best h =
    let b = nat_lt (number best) (number (last + 1)) in
    let same : last + 1 + n ≡ last + suc n = omega arith in
    subst (λ (k : ℕ). IsFirstGreatest number k (first_greatest number (if b then last + 1 else best) (range_with_len (last + 1 + 1) n))) same
    (greatest_all number n (last + 1) (if b then last + 1 else best) (greatest_next number last best b refl h))

pub greatest_is : (number : ℕ → ℕ) (u : ℕ) → IsFirstGreatest number u (first_greatest number 0 (range_with_len 1 u))
greatest_is number u = let same : 0 + u ≡ u = omega arith in subst (λ (n : ℕ). IsFirstGreatest number n (first_greatest number 0 (range_with_len 1 u))) same (greatest_all number u 0 0 (record {
  within = omega arith;
  most = λ k h. subst (λ (n : ℕ). number n ≤ number 0) (zero_most k h) (omega arith);
  first = λ k h. absurd (omega (arith, h));
}))

-- ---- the best of all is the first
pub best_greatest : (number : ℕ → ℕ) (u best : ℕ) → IsBestOf true number u (u + 1) best → IsFirstGreatest number u best
best_greatest number u best h = record {
  within = h.within;
  most = λ k le. h.good k (omega (arith, le));
  first = λ k lt. let within = h.within in h.first k (omega (arith, lt, within)) lt;
}

-- the low side counts from the end: the last of those that leave out so many is the first of those that take the others
pub best_smallest : (number : ℕ → ℕ) (u best : ℕ) → IsBestOf false (λ count. number (u - count)) u (u + 1) best → IsFirstSmallest number u (u - best)
best_smallest number u best h = record {
  within = omega arith;
  least = λ k le.
      let back : u - (u - k) ≡ k = omega (arith, le) in
      subst (λ (n : ℕ). number (u - best) ≤ number n) back (h.good (u - k) (omega arith));
  first = λ k lt.
      let back : u - (u - k) ≡ k = omega (arith, lt) in
      subst (λ (n : ℕ). number (u - best) < number n) back (h.first (u - k) (omega arith) (omega (arith, lt)));
}

-- ---- and so the chosen one
chosen_low : (marks : List Mark) (docs : List ℕ) (choice : Choice) → IsBestOf false (number_of false marks docs) (length (open_docs marks docs)) (length (open_docs marks docs) + 1) choice.count →
    choice.value ≡ number_of false marks docs choice.count → IsChosen false marks docs choice
unfolding average_bound_lo
chosen_low marks docs choice h e =
    let u = length (open_docs marks docs) in
    let number : ℕ → ℕ = λ t. low_average (length marks) (low_truth marks docs t) docs in
    let same : u - choice.count ≡ low_choice marks docs = smallest_one number u (u - choice.count) (low_choice marks docs) (best_smallest number u choice.count h) (smallest_is number u) in
    record { count = omega (arith, same, h.within); value = e ∙ ap number same }

chosen_high : (marks : List Mark) (docs : List ℕ) (choice : Choice) → IsRanking (length marks) docs → IsBestOf true (number_of true marks docs) (length (open_docs marks docs)) (length (open_docs marks docs) + 1) choice.count →
    choice.value ≡ number_of true marks docs choice.count → IsChosen true marks docs choice
chosen_high marks docs choice r h e =
    let u = length (open_docs marks docs) in
    let number : ℕ → ℕ = λ t. high_average (length marks) (high_truth marks docs t) docs in
    let same : choice.count ≡ high_choice marks docs = greatest_one number u choice.count (high_choice marks docs) (best_greatest number u choice.count h) (greatest_is number u) in
    record { count = same; value = e ∙ ap number same ∙ sym (bound_hi_is marks docs r) }

pub chosen : (high : Bool) (marks : List Mark) (docs : List ℕ) (choice : Choice) → IsRanking (length marks) docs → IsBestOf high (number_of high marks docs) (length (open_docs marks docs)) (length (open_docs marks docs) + 1) choice.count →
    choice.value ≡ number_of high marks docs choice.count → IsChosen high marks docs choice
chosen true marks docs choice r h e = chosen_high marks docs choice r h e
chosen false marks docs choice r h e = chosen_low marks docs choice h e
