-- The parts of a rank by its table.
use Rattle.std.proofs.Common.{◌≡◌, ℕ, zero, suc, ◌+◌, ◌-◌, ◌*◌, ◌/◌, ◌%◌, ◌^◌, ◌<◌, ◌≤◌, Bool, true, false, ap, sym, subst, ◌∙◌, arith}
use Rattle.std.specs.Prelude.{if◌then◌else◌}
use Rattle.std.proofs.Math.Nat.{mul-le-mul_left, mul-le-mul_right}
use Rattle.std.proofs.lemmas.Nat.{div_below}
use Rattle.precision_candidates.proofs.Quotients.{by_inverse, product_small, split_quotient}
use Rattle.precision_candidates.specs.Inverse.{inverse_of}
use Rattle.precision_candidates.specs.Sums.{worth_of}

abbrev pub up_of : Bool → ℕ → ℕ
up_of high rank = if high then rank - 1 else 0

pub product_fits : (high : Bool) (j r rest : ℕ) → 0 < r → j ≤ r → rest < r → j * rest + up_of high r ≤ r * r
product_fits high j zero rest p h l = absurd (omega (arith, p))
product_fits true j (suc d) rest p h l =
    let few : rest ≤ d = omega (arith, l) in
    omega (arith, mul-le-mul_right rest h, mul-le-mul_left (suc d) few)
product_fits false j (suc d) rest p h l =
    let few : rest ≤ d = omega (arith, l) in
    omega (arith, mul-le-mul_right rest h, mul-le-mul_left (suc d) few)

pub worth_split : (high : Bool) (j r : ℕ) → 0 < r → j * (10 ^ 18 / r) + (j * (10 ^ 18 % r) + up_of high r) / r ≡ worth_of high j r
worth_split high j zero p = absurd (omega (arith, p))
worth_split true j (suc d) p = split_quotient (10 ^ 18) j (suc d - 1) d
worth_split false j (suc d) p = let f : 10 ^ 18 * j + 0 ≡ 10 ^ 18 * j = omega arith in split_quotient (10 ^ 18) j 0 d ∙ ap (λ n. n / suc d) f

pub worth_small : (high : Bool) (j r : ℕ) → 0 < r → j ≤ r → worth_of high j r ≤ 10 ^ 18
worth_small high j zero p h = absurd (omega (arith, p))
worth_small true j (suc d) p h = omega (arith, div_below (10 ^ 18 * j + (suc d - 1)) (suc d) (10 ^ 18 + 1) (omega arith) (omega (arith, h)))
worth_small false j (suc d) p h = omega (arith, div_below (10 ^ 18 * j) (suc d) (10 ^ 18 + 1) (omega arith) (omega (arith, h)))

pub whole_small : (j r : ℕ) → 0 < r → j ≤ r → j * (10 ^ 18 / r) ≤ 10 ^ 18
whole_small j r p h =
    let cut : 10 ^ 18 / r * r ≤ 10 ^ 18 = omega arith in
    omega (arith, cut, mul-le-mul_right (10 ^ 18 / r) h)

pub rest_small : (r : ℕ) → 0 < r → 10 ^ 18 % r < r
rest_small zero p = absurd (omega (arith, p))
rest_small (suc d) p = omega arith

-- ---- by the rank's inverse
pub product_by : (n r : ℕ) → 0 < r → r ≤ 10000 → n ≤ r * r → n * inverse_of r < 2 ^ 64
product_by n zero p h l = absurd (omega (arith, p))
product_by n (suc r) p h l = product_small n r h l

quotient_by : (n r : ℕ) → 0 < r → r ≤ 10000 → n ≤ r * r → n * inverse_of r / 2199023255552 ≡ n / r
quotient_by n zero p h l = absurd (omega (arith, p))
quotient_by n (suc r) p h l = by_inverse n r h l

pub below_square : (n r : ℕ) → n < r → n ≤ r * r
below_square n zero h = absurd (omega (arith, h))
below_square n (suc r) h = let one : 1 ≤ suc r = omega arith in omega (arith, h, mul-le-mul_right (suc r) one)

up_is : (high b : Bool) (r up : ℕ) → high ≡ b → up ≡ up_of b r * inverse_of r → up ≡ up_of high r * inverse_of r
up_is high b r up e f = f ∙ sym (ap (λ (v : Bool). up_of v r * inverse_of r) e)

pub up_high : (high : Bool) (r up : ℕ) → high ≡ true → up ≡ (r - 1) * inverse_of r → up ≡ up_of high r * inverse_of r
up_high high r up e f = up_is high true r up e f

pub up_low : (high : Bool) (r up : ℕ) → high ≡ false → up ≡ 0 → up ≡ up_of high r * inverse_of r
up_low high r up e f = up_is high false r up e (omega (arith, f))

joined : (high : Bool) (j r rest up : ℕ) → rest ≡ 10 ^ 18 % r * inverse_of r → up ≡ up_of high r * inverse_of r → j * rest + up ≡ (j * (10 ^ 18 % r) + up_of high r) * inverse_of r
joined high j r rest up e f =
    let one : j * rest ≡ j * (10 ^ 18 % r * inverse_of r) = ap (λ (n : ℕ). j * n) e in
    omega (arith, one, f)

pub rest_fits : (high : Bool) (j r rest up : ℕ) → 0 < r → r ≤ 10000 → j ≤ r → rest ≡ 10 ^ 18 % r * inverse_of r → up ≡ up_of high r * inverse_of r → j * rest + up < 2 ^ 64
rest_fits high j r rest up p s h e f =
    subst (λ (n : ℕ). n < 2 ^ 64) (sym (joined high j r rest up e f)) (product_by (j * (10 ^ 18 % r) + up_of high r) r p s (product_fits high j r (10 ^ 18 % r) p h (rest_small r p)))

pub worth_is : (high : Bool) (j r whole rest up : ℕ) → 0 < r → r ≤ 10000 → j ≤ r → whole ≡ 10 ^ 18 / r → rest ≡ 10 ^ 18 % r * inverse_of r → up ≡ up_of high r * inverse_of r →
    j * whole + (j * rest + up) / 2199023255552 ≡ worth_of high j r
worth_is high j r whole rest up p s h d e f =
    let n = j * (10 ^ 18 % r) + up_of high r in
    ap (λ (w : ℕ). j * w + (j * rest + up) / 2199023255552) d
    ∙ ap (λ (m : ℕ). j * (10 ^ 18 / r) + m / 2199023255552) (joined high j r rest up e f)
    ∙ ap (λ (m : ℕ). j * (10 ^ 18 / r) + m) (quotient_by n r p s (product_fits high j r (10 ^ 18 % r) p h (rest_small r p)))
    ∙ worth_split high j r p
