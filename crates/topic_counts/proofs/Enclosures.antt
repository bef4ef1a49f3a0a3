-- Kept powers and weights enclose what they stand for, as whole numbers that may be negative.
use Rattle.std.proofs.Common.{◌≡◌, ℕ, ◌-◌, ◌*◌, ◌^◌, ◌<◌, ◌≤◌, Some, ℤ, pos, ◌*ℤ◌, ◌≤ℤ◌, arith}
use Rattle.std.proofs.lemmas.Int.{ints}
use Rattle.measure_laws.specs.Powers.{low_power, high_power, low_weight, high_weight}
use Rattle.measure_laws.proofs.Biased.{low_power-le, high_power-le}
use Rattle.measure_laws.proofs.Persistence.{rank_low, rank_high}

below_whole : (m n k : ℕ) (z : ℤ) → z ≡ pos m → m * n ≤ k → (z *ℤ pos n) ≤ℤ pos k
below_whole m n k z e h = rw e (omega (arith, ints))

above_whole : (m n k : ℕ) (z : ℤ) → z ≡ pos m → k ≤ m * n → pos k ≤ℤ (z *ℤ pos n)
above_whole m n k z e h = rw e (omega (arith, ints))

pub low_encloses : (a b i : ℕ) (z : ℤ) → z ≡ pos (low_power a b i) → (z *ℤ pos (b ^ i)) ≤ℤ pos (10 ^ 18 * a ^ i)
low_encloses a b i z e = below_whole (low_power a b i) (b ^ i) (10 ^ 18 * a ^ i) z e (low_power-le a b i)

pub high_encloses : (a b i : ℕ) (z : ℤ) → a < b → z ≡ pos (high_power a b i) → pos (10 ^ 18 * a ^ i) ≤ℤ (z *ℤ pos (b ^ i))
high_encloses a b i z h e = above_whole (high_power a b i) (b ^ i) (10 ^ 18 * a ^ i) z e (high_power-le a b i (omega (arith, h)))

pub weight_encloses_lo : (a b i : ℕ) (z : ℤ) → a < b → 1 ≤ i → z ≡ pos (low_weight a b (Some i)) → (z *ℤ pos (b ^ i)) ≤ℤ pos (10 ^ 18 * ((b - a) * a ^ (i - 1)))
weight_encloses_lo a b i z h k e = below_whole (low_weight a b (Some i)) (b ^ i) (10 ^ 18 * ((b - a) * a ^ (i - 1))) z e (rank_low a b i h k)

pub weight_encloses_hi : (a b i : ℕ) (z : ℤ) → a < b → 1 ≤ i → z ≡ pos (high_weight a b (Some i)) → pos (10 ^ 18 * ((b - a) * a ^ (i - 1))) ≤ℤ (z *ℤ pos (b ^ i))
weight_encloses_hi a b i z h k e = above_whole (high_weight a b (Some i)) (b ^ i) (10 ^ 18 * ((b - a) * a ^ (i - 1))) z e (rank_high a b i h k)
