-- Quotients by a rank: split into whole parts and a rest, and by the rank's inverse.
use Rattle.std.proofs.Common.{◌≡◌, ℕ, suc, ◌+◌, ◌*◌, ◌/◌, ◌%◌, ◌^◌, ◌<◌, ◌≤◌, ap, sym, ◌∙◌, inl, inr, arith}
use Rattle.std.proofs.Math.Nat.{mul-le-mul_left, mul-le-mul_right, mul-le-mul, le_of_mul-le-mul_right}
use Rattle.std.proofs.lemmas.Bool.{cases_lt}
use Rattle.std.proofs.lemmas.Nat.{div_below}
use Rattle.measure_laws.specs.Powers.{ceil_div}
use Rattle.precision_candidates.specs.Inverse.{inverse_of}

floor_unique : (n d k : ℕ) → k * suc d ≤ n → n < (k + 1) * suc d → n / suc d ≡ k
floor_unique n d k h l =
    let above : n < (n / suc d + 1) * suc d = omega arith in
    let most : n / suc d < k + 1 = div_below n (suc d) (k + 1) (omega arith) l in
    elim (cases_lt (n / suc d) k) [
      | inl less ↦ let grown : (n / suc d + 1) * suc d ≤ k * suc d = mul-le-mul_right (suc d) (omega (arith, less)) in absurd (omega (arith, above, grown, h))
      | inr more ↦ omega (arith, most, more)
    ]

floor_shifted : (a n d : ℕ) → (a * suc d + n) / suc d ≡ a + n / suc d
floor_shifted a n d =
    let low : n / suc d * suc d ≤ n = omega arith in
    let high : n < (n / suc d + 1) * suc d = omega arith in
    floor_unique (a * suc d + n) d (a + n / suc d) (omega (arith, low)) (omega (arith, high))

pub split_quotient : (s j c d : ℕ) → j * (s / suc d) + (j * (s % suc d) + c) / suc d ≡ (s * j + c) / suc d
split_quotient s j c d =
    let parts : s / suc d * suc d + s % suc d ≡ s = omega arith in
    let times : (s / suc d * suc d + s % suc d) * j ≡ s * j = ap (λ v. v * j) parts in
    let whole : (j * (s / suc d)) * suc d + (j * (s % suc d) + c) ≡ s * j + c = omega (arith, times) in
    sym (floor_shifted (j * (s / suc d)) (j * (s % suc d) + c) d) ∙ ap (λ v. v / suc d) whole

pub inverse_high : (k r : ℕ) → ceil_div k (suc r) * suc r ≤ k + r
inverse_high k r = omega arith

pub inverse_low : (k r : ℕ) → k ≤ ceil_div k (suc r) * suc r
inverse_low k r = omega arith

short_square : (r : ℕ) → suc r ≤ 10000 → suc r * suc r ≤ 100000000
short_square r h = omega (arith, mul-le-mul h h)

pub product_small : (n r : ℕ) → suc r ≤ 10000 → n ≤ suc r * suc r → n * inverse_of (suc r) < 2 ^ 64
product_small n r h l =
    let grown : n * inverse_of (suc r) ≤ suc r * suc r * inverse_of (suc r) = mul-le-mul_right (inverse_of (suc r)) l in
    let high : inverse_of (suc r) * suc r ≤ 2199023255552 + r = inverse_high 2199023255552 r in
    let times : suc r * (inverse_of (suc r) * suc r) ≤ suc r * (2199023255552 + r) = mul-le-mul_left (suc r) high in
    let near : 2199023255552 + r ≤ 2199023255552 + 10000 = omega (arith, h) in
    let most : suc r * (2199023255552 + r) ≤ 10000 * (2199023255552 + 10000) = mul-le-mul h near in
    omega (arith, grown, times, most)

pub by_inverse : (n r : ℕ) → suc r ≤ 10000 → n ≤ suc r * suc r → n * inverse_of (suc r) / 2199023255552 ≡ n / suc r
by_inverse n r h l =
    let inv = inverse_of (suc r) in
    let t = n / suc r in
    let cut : t * suc r ≤ n = omega arith in
    let above : n < (t + 1) * suc r = omega arith in
    let low : 2199023255552 ≤ inv * suc r = inverse_low 2199023255552 r in
    let high : inv * suc r ≤ 2199023255552 + r = inverse_high 2199023255552 r in
    let first : t * 2199023255552 ≤ n * inv = omega (arith, mul-le-mul_left t low, mul-le-mul_right inv cut) in
    let small : n ≤ 100000000 = omega (arith, l, short_square r h) in
    let short : r ≤ 10000 = omega (arith, h) in
    let few : n * r ≤ 100000000 * 10000 = mul-le-mul small short in
    let last : n * (inv * suc r) ≤ n * (2199023255552 + r) = mul-le-mul_left n high in
    let scaled : (n * inv + 1) * suc r ≤ ((t + 1) * 2199023255552) * suc r = omega (arith, last, few, above, h) in
    floor_unique (n * inv) 2199023255551 t first (omega (arith, le_of_mul-le-mul_right scaled (omega arith)))
