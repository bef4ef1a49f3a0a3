-- A candidate whose estimate is worse than the best number is not chosen.
use mir.Val.{bool_byte}
use Rattle.std.proofs.Common.{◌≡◌, ℕ, zero, suc, ◌+◌, ◌-◌, ◌*◌, ◌/◌, ◌<◌, ◌≤◌, nat_lt, Bool, true, false, ap, refl, inl, inr, arith}
use Rattle.std.proofs.Math.Nat.{mul-le-mul_right}
use Rattle.std.proofs.lemmas.Bool.{cases_lt, ltb-false}
use Rattle.std.proofs.lemmas.Nat.{div_below}
use Rattle.measure_laws.specs.Powers.{ceil_div}
use Rattle.measure_laws.specs.Parts.{low_out_of, high_out_of}

ceil_most : (n d c : ℕ) → n ≤ c * suc d → ceil_div n (suc d) ≤ c
ceil_most n d c h = omega (arith, div_below (n + (suc d - 1)) (suc d) (c + 1) (omega arith) (omega (arith, h)))

ceil_less : (n d v : ℕ) → n + suc d ≤ v * suc d → ceil_div n (suc d) < v
ceil_less n d zero h = absurd (omega (arith, h))
ceil_less n d (suc c) h = omega (arith, ceil_most n d c (omega (arith, h)))

floor_least : (n d k : ℕ) → k * suc d ≤ n → k ≤ n / suc d
floor_least n d k h = elim (cases_lt (n / suc d) k) [
  | inl less ↦
      let above : n < (n / suc d + 1) * suc d = omega arith in
      let grown : (n / suc d + 1) * suc d ≤ k * suc d = mul-le-mul_right (suc d) (omega (arith, less)) in
      absurd (omega (arith, above, grown, h))
  | inr more ↦ more
]

pub strict_is : (n a b : ℕ) → n ≡ bool_byte (nat_lt a b) → a < b → n ≡ 1
strict_is n a b e h = by (nat_lt a b) refl e
  where
    by : (s : Bool) → nat_lt a b ≡ s → n ≡ bool_byte s → n ≡ 1
    by true f g = g
    by false f g = absurd (omega (arith, h, ltb-false a b f))

pub beaten_high : (sum e k d v strict : ℕ) → 0 < d → sum ≤ e + k → e + k + strict * d ≤ v * d → (high_out_of sum d ≤ v) × (strict ≡ 1 → high_out_of sum d < v)
beaten_high sum e k zero v strict p h l = absurd (omega (arith, p))
beaten_high sum e k (suc d) v strict p h l = (
  ceil_most sum d v (omega (arith, h, l)),
  λ one. let times : strict * suc d ≡ 1 * suc d = ap (λ n. n * suc d) one in ceil_less sum d v (omega (arith, h, l, times)),
)

pub beaten_low : (sum e k d v strict : ℕ) → 0 < d → e ≤ sum + k → (v + strict) * d + k ≤ e → (v ≤ low_out_of sum d) × (strict ≡ 1 → v < low_out_of sum d)
beaten_low sum e k zero v strict p h l = absurd (omega (arith, p))
beaten_low sum e k (suc d) v strict p h l =
    let within : (v + strict) * suc d ≤ sum = omega (arith, h, l) in
    let least : v + strict ≤ sum / suc d = floor_least sum d (v + strict) within in
    (omega (arith, least), λ one. omega (arith, least, one))
