-- Rows that are closed run by run.
use Rattle.std.proofs.Common.{◌≡◌, ◌⊎◌, ◌↔◌, ℕ, ◌+◌, ◌<◌, ◌≤◌, Bool, true, ◌||◌, ◌&&◌, List, length, ap, sym, ◌∙◌, inl, inr, arith}
use Rattle.std.proofs.lemmas.Bool.{cases_lt}
use Rattle.order_tiers.specs.Chains.{IsCertifiedAbove}
use Rattle.order_tiers.specs.Rows.{is_above, AboveBy}
use Rattle.order_tiers.proofs.Chaining.{direct, leads_on, least, wider}
use Rattle.order_tiers.proofs.Tests.{either, both, or_first, or_second, and_both}
use Rattle.order_tiers.proofs.Writing.{is_run}

-- rows that are closed up to a run: chains lead along them, all pairs stand in them, and they lead on through each earlier run
pub record IsClosing (old rows : List (List Bool)) (via : ℕ) : Type 0 where
  pub sound : (a b : ℕ) → is_above rows a b ≡ true → IsCertifiedAbove (AboveBy old) a b
  pub keeps : (a b : ℕ) → is_above old a b ≡ true → is_above rows a b ≡ true
  pub leads : (m : ℕ) → m < via → (a b : ℕ) → is_above rows a m ≡ true → is_above rows m b ≡ true → is_above rows a b ≡ true

pub closing_none : (rows : List (List Bool)) → IsClosing rows rows 0
closing_none rows = record { sound = λ a b h. direct (AboveBy rows) a b h; keeps = λ a b h. h; leads = λ m lt. absurd (omega (arith, lt)) }

module _ (via : ℕ) (old rows next : List (List Bool)) (led : (a b : ℕ) → is_above next a b ≡ (is_above rows a b || (is_above rows a via && is_above rows via b))) (h : IsClosing old rows via) where
  -- either it was there, or it leads through the run
  parts : (a b : ℕ) → is_above next a b ≡ true → (is_above rows a b ≡ true) ⊎ ((is_above rows a via ≡ true) × (is_above rows via b ≡ true))
  parts a b e = elim (either (is_above rows a b) (is_above rows a via && is_above rows via b) (sym (led a b) ∙ e)) [ inl old ↦ inl old | inr new ↦ inr (both (is_above rows a via) (is_above rows via b) new) ]

  kept : (a b : ℕ) → is_above rows a b ≡ true → is_above next a b ≡ true
  kept a b e = led a b ∙ or_first (is_above rows a b) (is_above rows a via && is_above rows via b) e

  through : (a b : ℕ) → is_above rows a via ≡ true → is_above rows via b ≡ true → is_above next a b ≡ true
  through a b e f = led a b ∙ or_second (is_above rows a b) (is_above rows a via && is_above rows via b) (and_both (is_above rows a via) (is_above rows via b) e f)

  -- to the run and from it nothing is new
  to_via : (a : ℕ) → is_above next a via ≡ true → is_above rows a via ≡ true
  to_via a e = elim (parts a via e) [ inl old ↦ old | inr new ↦ new.0 ]

  from_via : (b : ℕ) → is_above next via b ≡ true → is_above rows via b ≡ true
  from_via b e = elim (parts via b e) [ inl old ↦ old | inr new ↦ new.1 ]

  earlier : (m : ℕ) → m < via → (a b : ℕ) → is_above next a m ≡ true → is_above next m b ≡ true → is_above next a b ≡ true
  earlier m less a b e f = elim (parts a m e) [
    | inl p ↦ elim (parts m b f) [ inl q ↦ kept a b (h.leads m less a b p q) | inr q ↦ through a b (h.leads m less a via p q.0) q.1 ]
    | inr p ↦ elim (parts m b f) [ inl q ↦ through a b p.0 (h.leads m less via b p.1 q) | inr q ↦ through a b p.0 q.1 ]
  ]

  pub closing_more : IsClosing old next (via + 1)
  closing_more = record {
    sound = λ a b e. elim (parts a b e) [ inl p ↦ h.sound a b p | inr p ↦ leads_on (AboveBy old) a via b (h.sound a via p.0) (h.sound via b p.1) ];
    keeps = λ a b e. kept a b (h.keeps a b e);
    leads = λ m less a b e f. elim (cases_lt m via) [
      | inl before ↦ earlier m before a b e f
      | inr from ↦
          let here : m ≡ via = omega (arith, less, from) in
          through a b (to_via a (ap (λ z. is_above next a z) (sym here) ∙ e)) (from_via b (ap (λ z. is_above next z b) (sym here) ∙ f))
    ];
  }

pub closed : (old rows : List (List Bool)) (via : ℕ) → length rows ≤ via → IsClosing old rows via → (a b : ℕ) → (is_above rows a b ≡ true) ↔ IsCertifiedAbove (AboveBy old) a b
closed old rows via long h a b = (
  h.sound a b,
  λ certified. least (AboveBy old) (AboveBy rows) (λ x y z e f. h.leads y (let lt = is_run rows y z f in omega (arith, lt, long)) x z e f) h.keeps a b certified,
)

-- rows that are closed over those of the direct pairs say what the pairs certify
pub closed_over : (Above : ℕ → ℕ → Type 0) (old rows : List (List Bool)) → ((a b : ℕ) → (is_above old a b ≡ true) ↔ Above a b) → ((a b : ℕ) → (is_above rows a b ≡ true) ↔ IsCertifiedAbove (AboveBy old) a b) → (a b : ℕ) → (is_above rows a b ≡ true) ↔ IsCertifiedAbove Above a b
closed_over Above old rows pairs chains a b = (λ e. wider (AboveBy old) Above (λ x y. (pairs x y).0) a b ((chains a b).0 e), λ h. (chains a b).1 (wider Above (AboveBy old) (λ x y. (pairs x y).1) a b h))
