-- Whole numbers.
use Rattle.std.proofs.Common.{◌≡◌, ◌≢◌, ◌⊎◌, ℕ, zero, suc, ◌+◌, ◌<◌, ℤ, pos, negsuc, neg_ℤ, ◌≤ℤ◌, arith, refl}
use Rattle.std.proofs.lemmas.Int.{ints}

pub neg_twice : (z : ℤ) → neg_ℤ (neg_ℤ z) ≡ z
neg_twice (pos zero) = refl
neg_twice (pos (suc n)) = refl
neg_twice (negsuc n) = refl

pub both_ways : (z w : ℤ) → z ≤ℤ w → w ≤ℤ z → z ≡ w
both_ways z w h k = omega (arith, ints)

pub same_or_not : (m n : ℕ) → (m ≡ n) ⊎ (m ≢ n)
same_or_not m n = grind arith

pub less_or_last : (m n : ℕ) → m < n + 1 → (m < n) ⊎ (m ≡ n)
less_or_last m n h = grind arith
