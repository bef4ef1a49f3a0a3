-- Runs that are below a run below another, and covering pairs by them.
use Rattle.std.proofs.Common.{◌≡◌, ◌↔◌, ℕ, ◌+◌, ◌<◌, ◌≤◌, Bool, true, false, ◌||◌, List, length, sym, subst, ◌∙◌, inl, inr, arith}
use Rattle.small_lemmas.proofs.Numbers.{less_or_last}
use Rattle.order_tiers.specs.Rows.{has, is_above, AboveBy}
use Rattle.order_tiers.specs.Tables.{IsBelowBelow}
use Rattle.order_tiers.specs.Tiers.{IsCovering}
use Rattle.order_tiers.proofs.Tests.{either, or_first, or_second, true_or_false, not_both}
use Rattle.order_tiers.proofs.Writing.{is_run}

-- a row has the runs that are below one of the first runs that are below the first one
abbrev pub IsBelowFirst : List (List Bool) → ℕ → List Bool → ℕ → Type 0
IsBelowFirst rows first row run = (b : ℕ) → (has row b ≡ true) ↔ ((c : ℕ) × (c < run) × AboveBy rows first c × AboveBy rows c b)

pub below_none : (rows : List (List Bool)) (first : ℕ) (row : List Bool) → ((b : ℕ) → has row b ≡ false) → IsBelowFirst rows first row 0
below_none rows first row none b = (λ e. not_both (has row b) e (none b), λ there. absurd (let lt = there.1 in omega (arith, lt)))

module _ (rows : List (List Bool)) (first run : ℕ) (row : List Bool) (h : IsBelowFirst rows first row run) where
  pub below_skip : (is_above rows first run ≡ true → ⊥) → IsBelowFirst rows first row (run + 1)
  below_skip not_ b = (
    λ e. let there = (h b).0 e in (there.0, let lt = there.1 in omega (arith, lt), there.2, there.3),
    λ there. elim (less_or_last there.0 run there.1) [
      | inl before ↦ (h b).1 (there.0, before, there.2, there.3)
      | inr last ↦ absurd (not_ (subst (λ x. is_above rows first x ≡ true) last there.2))
    ],
  )

  pub below_more : (next : List Bool) → ((b : ℕ) → has next b ≡ (has row b || is_above rows run b)) → is_above rows first run ≡ true → IsBelowFirst rows first next (run + 1)
  below_more next joined over b = (
    λ e. elim (either (has row b) (is_above rows run b) (sym (joined b) ∙ e)) [
      | inl old ↦ let there = (h b).0 old in (there.0, let lt = there.1 in omega (arith, lt), there.2, there.3)
      | inr new ↦ (run, omega arith, over, new)
    ],
    λ there.
        let there_now : (has row b || is_above rows run b) ≡ true = elim (less_or_last there.0 run there.1) [
          | inl before ↦ or_first (has row b) (is_above rows run b) ((h b).1 (there.0, before, there.2, there.3))
          | inr last ↦ or_second (has row b) (is_above rows run b) (subst (λ x. is_above rows x b ≡ true) last there.3)
        ] in
        joined b ∙ there_now,
  )

  pub below_all : length row ≡ length rows → length rows ≤ run → IsBelowBelow rows first row
  below_all long past = record {
    long = long;
    each = λ b. (
      λ e. let there = (h b).0 e in (there.0, there.2, there.3),
      λ there. (h b).1 (there.0, let lt = is_run rows there.0 b there.2 in omega (arith, lt, past), there.1, there.2),
    );
  }

-- a run covers another where it is above it, and the other is below none below it
module _ (rows : List (List Bool)) (first second : ℕ) (between : List Bool) (h : IsBelowBelow rows first between) where
  pub covers_by : is_above rows first second ≡ true → has between second ≡ false → IsCovering (AboveBy rows) (length rows) first second
  covers_by over none = record { above = over; none_between = λ c lt p q. not_both (has between second) ((h.each second).1 (c, p, q)) none }

  pub none_between : IsCovering (AboveBy rows) (length rows) first second → has between second ≡ false
  none_between covering = elim (true_or_false (has between second)) [
    | inl yes_ ↦ let there = (h.each second).0 yes_ in absurd (covering.none_between there.0 (is_run rows there.0 second there.2) there.1 there.2)
    | inr no_ ↦ no_
  ]
