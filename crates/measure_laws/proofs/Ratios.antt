-- Whole numbers beside a difference of two fractions with one denominator.
use Rattle.std.proofs.Common.{◌≡◌, ℕ, ◌+◌, ◌*◌, ◌<◌, ◌≤◌, ℤ, pos, ◌*ℤ◌, ◌-ℤ◌, ◌≤ℤ◌, arith, ap}
use Rattle.std.proofs.Math.Nat.{mul-le-mul_right, le_of_mul-le-mul_right}
use Rattle.std.proofs.lemmas.Int.{ints}
use borrow.Author.Differences.{up, down}
use Rattle.desk_model.specs.Fraction.{Fraction, IsAtMost, IsAtLeast}
use Rattle.desk_model.proofs.Fractions.{at_most_in, at_most_out, at_least_in, at_least_out, times_difference}

-- a number of parts out of d
abbrev pub out_of : ℕ → ℕ → Fraction
out_of m d = record { num = m; den = d }

below_out : (z : ℤ) (u d p q : ℕ) → (z *ℤ pos d) ≤ℤ (pos u *ℤ (pos p -ℤ pos q)) → up z * d + u * q ≤ u * p + down z * d
below_out z u d p q h = omega (arith, ints, times_difference u p q)

below_in : (z : ℤ) (u d p q : ℕ) → up z * d + u * q ≤ u * p + down z * d → (z *ℤ pos d) ≤ℤ (pos u *ℤ (pos p -ℤ pos q))
below_in z u d p q h = omega (arith, ints, times_difference u p q)

above_out : (z : ℤ) (u d p q : ℕ) → (pos u *ℤ (pos p -ℤ pos q)) ≤ℤ (z *ℤ pos d) → u * p + down z * d ≤ up z * d + u * q
above_out z u d p q h = omega (arith, ints, times_difference u p q)

above_in : (z : ℤ) (u d p q : ℕ) → u * p + down z * d ≤ up z * d + u * q → (pos u *ℤ (pos p -ℤ pos q)) ≤ℤ (z *ℤ pos d)
above_in z u d p q h = omega (arith, ints, times_difference u p q)

low_joined : (s t u d m n p q : ℕ) → m + q ≡ n + p → s * d + u * q ≤ u * p + t * d → s * (d * d) + u * (n * d) ≤ u * (m * d) + t * (d * d)
low_joined s t u d m n p q e h = omega (arith, mul-le-mul_right d h, ap (λ w. u * (w * d)) e)

low_split : (s t u d m n p q : ℕ) → 0 < d → m + q ≡ n + p → s * (d * d) + u * (n * d) ≤ u * (m * d) + t * (d * d) → s * d + u * q ≤ u * p + t * d
low_split s t u d m n p q pd e h =
    let joined : (s * d + u * q) * d ≤ (u * p + t * d) * d = omega (arith, h, ap (λ w. u * (w * d)) e) in le_of_mul-le-mul_right joined pd

high_joined : (s t u d m n p q : ℕ) → m + q ≡ n + p → u * p + t * d ≤ s * d + u * q → u * (m * d) + t * (d * d) ≤ s * (d * d) + u * (n * d)
high_joined s t u d m n p q e h = omega (arith, mul-le-mul_right d h, ap (λ w. u * (w * d)) e)

high_split : (s t u d m n p q : ℕ) → 0 < d → m + q ≡ n + p → u * (m * d) + t * (d * d) ≤ s * (d * d) + u * (n * d) → u * p + t * d ≤ s * d + u * q
high_split s t u d m n p q pd e h =
    let joined : (u * p + t * d) * d ≤ (s * d + u * q) * d = omega (arith, h, ap (λ w. u * (w * d)) e) in le_of_mul-le-mul_right joined pd

-- what a whole number that is at most, or at least, their difference says of m less n, which is p less q
pub low_in : (z : ℤ) (u m n d p q : ℕ) → m + q ≡ n + p → (z *ℤ pos d) ≤ℤ (pos u *ℤ (pos p -ℤ pos q)) → IsAtMost z u (out_of m d) (out_of n d)
low_in z u m n d p q e h = at_most_in z u (out_of m d) (out_of n d) (low_joined (up z) (down z) u d m n p q e (below_out z u d p q h))

pub low_out : (z : ℤ) (u m n d p q : ℕ) → 0 < d → m + q ≡ n + p → IsAtMost z u (out_of m d) (out_of n d) → (z *ℤ pos d) ≤ℤ (pos u *ℤ (pos p -ℤ pos q))
low_out z u m n d p q pd e h = below_in z u d p q (low_split (up z) (down z) u d m n p q pd e (at_most_out z u (out_of m d) (out_of n d) h))

pub high_in : (z : ℤ) (u m n d p q : ℕ) → m + q ≡ n + p → (pos u *ℤ (pos p -ℤ pos q)) ≤ℤ (z *ℤ pos d) → IsAtLeast z u (out_of m d) (out_of n d)
high_in z u m n d p q e h = at_least_in z u (out_of m d) (out_of n d) (high_joined (up z) (down z) u d m n p q e (above_out z u d p q h))

pub high_out : (z : ℤ) (u m n d p q : ℕ) → 0 < d → m + q ≡ n + p → IsAtLeast z u (out_of m d) (out_of n d) → (pos u *ℤ (pos p -ℤ pos q)) ≤ℤ (z *ℤ pos d)
high_out z u m n d p q pd e h = above_in z u d p q (high_split (up z) (down z) u d m n p q pd e (at_least_out z u (out_of m d) (out_of n d) h))
