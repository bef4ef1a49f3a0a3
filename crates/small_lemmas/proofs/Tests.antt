-- What tests of numbers say.
use Rattle.std.proofs.Common.{◌≡◌, ℕ, ◌+◌, ◌<◌, ◌≤◌, Bool, true, false, ◌||◌, nat_eq, nat_lt, int_lt, ℤ, pos, negsuc, ◌<ℤ◌, ◌≤ℤ◌, arith, refl}
use Rattle.std.proofs.lemmas.Bool.Decides.{nat_tests}
use Rattle.std.proofs.lemmas.Int.{ints}

pub apart_below : (m n : ℕ) → m < n → nat_eq m n ≡ false
apart_below m n h = grind (arith, nat_tests)

pub apart_over : (m n : ℕ) → n < m → nat_eq m n ≡ false
apart_over m n h = grind (arith, nat_tests)

pub positive : (z : ℤ) → int_lt (pos 0) z ≡ true → pos 0 <ℤ z
positive (pos n) h = let k : 0 < n = grind (arith, nat_tests, h) in omega (arith, ints)
positive (negsuc n) h = absurd (cc)

pub not_positive : (z : ℤ) → int_lt (pos 0) z ≡ false → z ≤ℤ pos 0
not_positive (pos n) h = let k : n ≤ 0 = grind (arith, nat_tests, h) in omega (arith, ints)
not_positive (negsuc n) h = omega (arith, ints)

pub negative : (z : ℤ) → int_lt z (pos 0) ≡ true → z <ℤ pos 0
negative (pos n) h = absurd (grind (arith, nat_tests, h))
negative (negsuc n) h = omega (arith, ints)

pub not_negative : (z : ℤ) → int_lt z (pos 0) ≡ false → pos 0 ≤ℤ z
not_negative (pos n) h = omega (arith, ints)
not_negative (negsuc n) h = absurd (cc)

-- two differences that are one compare alike
pub same_difference : (m n p q : ℕ) → p + n ≡ m + q → nat_lt q p ≡ nat_lt n m
same_difference m n p q h = grind (arith, nat_tests)

pub neither : (b c : Bool) → (b || c) ≡ false → (b ≡ false) × (c ≡ false)
neither true c h = absurd (cc)
neither false c h = (refl, h)
