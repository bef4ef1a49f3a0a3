-- The whole numbers behind a printed mean.
use Rattle.std.proofs.Common.{ℕ, ◌*◌, ◌/◌, ◌^◌, ◌<◌, ◌≤◌, ℤ, pos, negsuc, neg_ℤ, ◌≤ℤ◌, arith}
use Rattle.std.specs.Int.{int_div_euclid}
use Rattle.std.specs.Prelude.{unsigned_abs}
use Rattle.std.proofs.lemmas.Int.{ints}
use Rattle.std.proofs.Math.Nat.{mul-le-mul, mul-pos}
use Rattle.std.proofs.Math.Nat.{div-le_self}

-- the units of all topics together
pub product_within : (u : ℤ) (t : ℕ) → pos 1 ≤ℤ u → u ≤ℤ pos (10 ^ 19) → 1 ≤ t → t ≤ 10000 → (1 ≤ unsigned_abs u * t) × (unsigned_abs u * t ≤ 10 ^ 23)
product_within (pos a) t h k l m =
    let some : 0 < a * t = mul-pos (omega (arith, ints)) (omega arith) in
    let few : a ≤ 10 ^ 19 = omega (arith, ints) in
    let topics : t ≤ 10 ^ 4 = omega arith in
    (some, mul-le-mul few topics)
product_within (negsuc a) t h k l m = absurd (omega (arith, ints))

-- a quotient by at least one is no longer than what is divided
pub quotient_within : (n : ℤ) (d m : ℕ) → neg_ℤ (pos m) ≤ℤ n → n ≤ℤ pos m → (neg_ℤ (pos m) ≤ℤ int_div_euclid n (pos d)) × (int_div_euclid n (pos d) ≤ℤ pos m)
quotient_within (pos a) d m k l = let less : a / d ≤ a = div-le_self a d in omega (arith, ints)
quotient_within (negsuc a) d m k l = let less : a / d ≤ a = div-le_self a d in omega (arith, ints)
