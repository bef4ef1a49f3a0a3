-- Sums and their sizes.
use Rattle.std.proofs.Common.{◌≡◌, ℕ, ◌+◌, ◌≤◌, ℤ, ◌+ℤ◌, ap, ◌∙◌, arith}
use Rattle.std.proofs.lemmas.Int.{ints}
use Rattle.desk_model.specs.declared.types.Totals.{Totals}
use Rattle.measure_laws.specs.Shares.{IsModest}
use Rattle.topic_counts.specs.Ends.{IsNear}
use Rattle.pair_table.specs.Kept.{IsAtMostInSize}

pub within_step : (n : ℕ) (z w : ℤ) → IsAtMostInSize n z → IsModest w → IsAtMostInSize (n + 1) (z +ℤ w)
within_step n z w h k = omega (arith, ints)

pub within_near : (n : ℕ) (z : ℤ) → n ≤ 10000 → IsAtMostInSize n z → IsNear z
within_near n z few h = omega (arith, ints)

-- ---- the four sums of two runs
pub totals_same : (a b c d a' b' c' d' : ℤ) → a ≡ a' → b ≡ b' → c ≡ c' → d ≡ d' →
    (let t : Totals = record { least_lo = a; least_hi = b; most_lo = c; most_hi = d } in t) ≡ record { least_lo = a'; least_hi = b'; most_lo = c'; most_hi = d' }
totals_same a b c d a' b' c' d' e f g h =
    ap (λ z. record { least_lo = z; least_hi = b; most_lo = c; most_hi = d }) e ∙ ap (λ z. record { least_lo = a'; least_hi = z; most_lo = c; most_hi = d }) f
    ∙ ap (λ z. record { least_lo = a'; least_hi = b'; most_lo = z; most_hi = d }) g ∙ ap (λ z. record { least_lo = a'; least_hi = b'; most_lo = c'; most_hi = z }) h
