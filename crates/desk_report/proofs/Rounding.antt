-- An end in units of all topics, and the end in millionths that is printed for it.
use Rattle.std.proofs.Common.{ℕ, ◌+◌, ◌*◌, ◌<◌, ◌≤◌, ℤ, pos, neg_ℤ, ◌*ℤ◌, ◌≤ℤ◌, arith, refl}
use Rattle.std.specs.Int.{int_div_euclid}
use Rattle.std.proofs.Math.Nat.{mul-le-mul_left, mul-le-mul_right, le_of_mul-le-mul_left}
use Rattle.std.proofs.lemmas.Int.{ints}
use borrow.Author.Differences.{up, down}
use Rattle.desk_model.specs.Fraction.{Fraction, IsAtMost, IsAtLeast}
use Rattle.desk_model.proofs.Fractions.{at_most_out, at_most_in, at_least_out, at_least_in}
use Rattle.desk_model.proofs.Floors.{is_floor, ceiling_is}
use Rattle.topic_counts.specs.Numbers.{floor_of, ceiling_of}

-- with z = p - n and its floor f = q - m, where u units make a million
rounded_down : (p n q m u x y d : ℕ) → 0 < u → q * u + n * 1000000 ≤ p * 1000000 + m * u → p * d + u * y ≤ u * x + n * d → q * d + 1000000 * y ≤ 1000000 * x + m * d
rounded_down p n q m u x y d some f h =
    let scaled : u * (q * d + 1000000 * y) ≤ u * (1000000 * x + m * d) = omega (arith, mul-le-mul_right d f, mul-le-mul_left 1000000 h) in
    le_of_mul-le-mul_left scaled some

rounded_up : (p n q m u x y d : ℕ) → 0 < u → p * 1000000 + m * u ≤ q * u + n * 1000000 → u * x + n * d ≤ p * d + u * y → 1000000 * x + m * d ≤ q * d + 1000000 * y
rounded_up p n q m u x y d some f h =
    let scaled : u * (1000000 * x + m * d) ≤ u * (q * d + 1000000 * y) = omega (arith, mul-le-mul_right d f, mul-le-mul_left 1000000 h) in
    le_of_mul-le-mul_left scaled some

floor_parts : (f z : ℤ) (u : ℕ) → (f *ℤ pos u) ≤ℤ (z *ℤ pos 1000000) → up f * u + down z * 1000000 ≤ up z * 1000000 + down f * u
floor_parts f z u h = omega (arith, ints)

ceiling_parts : (f z : ℤ) (u : ℕ) → (z *ℤ pos 1000000) ≤ℤ (f *ℤ pos u) → up z * 1000000 + down f * u ≤ up f * u + down z * 1000000
ceiling_parts f z u h = omega (arith, ints)

pub printed_low : (z : ℤ) (u : ℕ) (x y : Fraction) → 0 < u → IsAtMost z u x y → IsAtMost (floor_of (z *ℤ pos 1000000) u) 1000000 x y
printed_low z u x y some h =
    let f : ℤ = floor_of (z *ℤ pos 1000000) u in
    at_most_in f 1000000 x y (rounded_down (up z) (down z) (up f) (down f) u (x.num * y.den) (y.num * x.den) (x.den * y.den) some
    (floor_parts f z u (is_floor (z *ℤ pos 1000000) u some).so) (at_most_out z u x y h))

pub printed_high : (z : ℤ) (u : ℕ) (x y : Fraction) → 0 < u → IsAtLeast z u x y → IsAtLeast (ceiling_of (z *ℤ pos 1000000) u) 1000000 x y
printed_high z u x y some h =
    let n : ℤ = z *ℤ pos 1000000 in
    let f : ℤ = ceiling_of n u in
    let top = ceiling_is n (neg_ℤ n) (pos u) (int_div_euclid (neg_ℤ n) (pos u)) f refl refl (is_floor (neg_ℤ n) u some) in
    at_least_in f 1000000 x y (rounded_up (up z) (down z) (up f) (down f) u (x.num * y.den) (y.num * x.den) (x.den * y.den) some
    (ceiling_parts f z u top.so) (at_least_out z u x y h))
