-- Rounded quotients, and the parts of a rank without a product beyond 64 bits.
use Rattle.std.proofs.Common.{◌≡◌, ℕ, zero, suc, ◌+◌, ◌-◌, ◌*◌, ◌/◌, ◌%◌, ◌^◌, ◌<◌, ◌≤◌, Bool, true, false, ap, sym, ◌∙◌, inl, inr, arith}
use Rattle.std.specs.Prelude.{if◌then◌else◌}
use Rattle.std.proofs.Math.Nat.{mul-le-mul_left, mul-le-mul_right}
use Rattle.std.proofs.lemmas.Bool.{cases_lt}
use Rattle.std.proofs.lemmas.Nat.{div_below}
use Rattle.measure_laws.specs.Powers.{ceil_div}
use Rattle.topic_ends.specs.Candidates.{out_of}
use Rattle.topic_ends.specs.Estimates.{IsAsGood, IsNear}
use Rattle.topic_ends.specs.PartSums.{worth_of}

-- ---- quotients
floor_unique : (n d k : ℕ) → k * suc d ≤ n → n < (k + 1) * suc d → n / suc d ≡ k
floor_unique n d k h l =
    let above : n < (n / suc d + 1) * suc d = omega arith in
    let most : n / suc d < k + 1 = div_below n (suc d) (k + 1) (omega arith) l in
    elim (cases_lt (n / suc d) k) [
      | inl less ↦ let grown : (n / suc d + 1) * suc d ≤ k * suc d = mul-le-mul_right (suc d) (omega (arith, less)) in absurd (omega (arith, above, grown, h))
      | inr more ↦ omega (arith, most, more)
    ]

floor_shifted : (a n d : ℕ) → (a * suc d + n) / suc d ≡ a + n / suc d
floor_shifted a n d =
    let low : n / suc d * suc d ≤ n = omega arith in
    let high : n < (n / suc d + 1) * suc d = omega arith in
    floor_unique (a * suc d + n) d (a + n / suc d) (omega (arith, low)) (omega (arith, high))

split_quotient : (s j c d : ℕ) → j * (s / suc d) + (j * (s % suc d) + c) / suc d ≡ (s * j + c) / suc d
split_quotient s j c d =
    let parts : s / suc d * suc d + s % suc d ≡ s = omega arith in
    let times : (s / suc d * suc d + s % suc d) * j ≡ s * j = ap (λ v. v * j) parts in
    let whole : (j * (s / suc d)) * suc d + (j * (s % suc d) + c) ≡ s * j + c = omega (arith, times) in
    sym (floor_shifted (j * (s / suc d)) (j * (s % suc d) + c) d) ∙ ap (λ v. v / suc d) whole

pub ceil_most : (n d c : ℕ) → n ≤ c * suc d → ceil_div n (suc d) ≤ c
ceil_most n d c h = omega (arith, div_below (n + (suc d - 1)) (suc d) (c + 1) (omega arith) (omega (arith, h)))

floor_least : (n d k : ℕ) → k * suc d ≤ n → k ≤ n / suc d
floor_least n d k h = elim (cases_lt (n / suc d) k) [
  | inl less ↦
      let above : n < (n / suc d + 1) * suc d = omega arith in
      let grown : (n / suc d + 1) * suc d ≤ k * suc d = mul-le-mul_right (suc d) (omega (arith, less)) in
      absurd (omega (arith, above, grown, h))
  | inr more ↦ more
]

-- ---- the parts of a rank
abbrev pub up_of : Bool → ℕ → ℕ
up_of high rank = if high then rank - 1 else 0

pub product_fits : (high : Bool) (j r rest : ℕ) → 0 < r → j ≤ r → rest < r → j * rest + up_of high r ≤ r * r
product_fits high j zero rest p h l = absurd (omega (arith, p))
product_fits true j (suc d) rest p h l =
    let few : rest ≤ d = omega (arith, l) in
    omega (arith, mul-le-mul_right rest h, mul-le-mul_left (suc d) few)
product_fits false j (suc d) rest p h l =
    let few : rest ≤ d = omega (arith, l) in
    omega (arith, mul-le-mul_right rest h, mul-le-mul_left (suc d) few)

pub worth_split : (high : Bool) (j r : ℕ) → 0 < r → j * (10 ^ 18 / r) + (j * (10 ^ 18 % r) + up_of high r) / r ≡ worth_of high j r
worth_split high j zero p = absurd (omega (arith, p))
worth_split true j (suc d) p = split_quotient (10 ^ 18) j (suc d - 1) d
worth_split false j (suc d) p = let f : 10 ^ 18 * j + 0 ≡ 10 ^ 18 * j = omega arith in split_quotient (10 ^ 18) j 0 d ∙ ap (λ n. n / suc d) f

pub worth_small : (high : Bool) (j r : ℕ) → 0 < r → j ≤ r → worth_of high j r ≤ 10 ^ 18
worth_small high j zero p h = absurd (omega (arith, p))
worth_small true j (suc d) p h = omega (arith, div_below (10 ^ 18 * j + (suc d - 1)) (suc d) (10 ^ 18 + 1) (omega arith) (omega (arith, h)))
worth_small false j (suc d) p h = omega (arith, div_below (10 ^ 18 * j) (suc d) (10 ^ 18 + 1) (omega arith) (omega (arith, h)))

pub whole_small : (j r : ℕ) → 0 < r → j ≤ r → j * (10 ^ 18 / r) ≤ 10 ^ 18
whole_small j r p h =
    let cut : 10 ^ 18 / r * r ≤ 10 ^ 18 = omega arith in
    omega (arith, cut, mul-le-mul_right (10 ^ 18 / r) h)

pub rest_small : (r : ℕ) → 0 < r → 10 ^ 18 % r < r
rest_small zero p = absurd (omega (arith, p))
rest_small (suc d) p = omega arith

-- what is added before the division, by which side it is
up_is : (high b : Bool) (r up : ℕ) → high ≡ b → up ≡ up_of b r → up ≡ up_of high r
up_is high b r up e f = f ∙ sym (ap (λ (v : Bool). up_of v r) e)

pub up_high : (high : Bool) (r up : ℕ) → high ≡ true → up ≡ r - 1 → up ≡ up_of high r
up_high high r up e f = up_is high true r up e f

pub up_low : (high : Bool) (r up : ℕ) → high ≡ false → up ≡ 0 → up ≡ up_of high r
up_low high r up e f = up_is high false r up e f

-- ---- an estimate that is no better than a number
pub beaten_high : (high : Bool) (sum e k d v : ℕ) → high ≡ true → 0 < d → IsNear high sum e k → e + k ≤ v * d → IsAsGood high v (out_of high sum d)
beaten_high false sum e k d v f p h l = absurd (cc)
beaten_high true sum e k zero v f p h l = absurd (omega (arith, p))
beaten_high true sum e k (suc d) v f p h l = ceil_most sum d v (omega (arith, h, l))

pub beaten_low : (high : Bool) (sum e k d v : ℕ) → high ≡ false → 0 < d → IsNear high sum e k → v * d + k ≤ e → IsAsGood high v (out_of high sum d)
beaten_low true sum e k d v f p h l = absurd (cc)
beaten_low false sum e k zero v f p h l = absurd (omega (arith, p))
beaten_low false sum e k (suc d) v f p h l = floor_least sum d v (omega (arith, h, l))
