use Rattle.std.proofs.Common.{◌≡◌, ℕ, ◌+◌, ◌^◌, ◌<◌, ℤ, pos, neg_ℤ, ◌+ℤ◌, ◌-ℤ◌, to_z, of_z, arith}
use Rattle.std.specs.Int.{w128}
use Rattle.std.proofs.lemmas.Int.{ints}
use Rattle.rbp.proofs.Walk.{IsSmall}
use Rattle.rbp.proofs.by_ranks.Added.shares.Goals as goal

-- the sum of two parts, as the code reads it
sum_is : (m n : ℕ) (x y : ℤ) → m < 2 ^ 64 → n < 2 ^ 64 → x ≡ pos m → y ≡ pos n → to_z w128 (of_z w128 (to_z w128 (of_z w128 x) +ℤ to_z w128 (of_z w128 y))) ≡ pos (m + n)
sum_is m n x y h k e f = omega (arith, ints)

-- and their difference
difference_is : (m n : ℕ) (x y : ℤ) → m < 2 ^ 64 → n < 2 ^ 64 → x ≡ pos m → y ≡ pos n → to_z w128 (of_z w128 (to_z w128 (of_z w128 x) -ℤ to_z w128 (of_z w128 y))) ≡ pos m -ℤ pos n
difference_is m n x y h k e f = omega (arith, ints)

-- a sum with its sign changed
negated_is : (n : ℕ) (z : ℤ) → n < 2 ^ 65 → z ≡ pos n → to_z w128 (of_z w128 (pos 0 -ℤ z)) ≡ neg_ℤ (pos n)
negated_is n z h e = omega (arith, ints)

-- none of them is far from 0
within_sum : (m n : ℕ) (z : ℤ) → m < 2 ^ 64 → n < 2 ^ 64 → z ≡ pos (m + n) → IsSmall (10 ^ 27) z
within_sum m n z h k e = (omega (arith, ints), omega (arith, ints))

within_difference : (m n : ℕ) (z : ℤ) → m < 2 ^ 64 → n < 2 ^ 64 → z ≡ pos m -ℤ pos n → IsSmall (10 ^ 27) z
within_difference m n z h k e = (omega (arith, ints), omega (arith, ints))

within_negated : (m n : ℕ) (z : ℤ) → m < 2 ^ 64 → n < 2 ^ 64 → z ≡ neg_ℤ (pos (m + n)) → IsSmall (10 ^ 27) z
within_negated m n z h k e = (omega (arith, ints), omega (arith, ints))

pub overflow_add-result : goal.overflow_add-result
overflow_add-result c = omega (arith, ints, c.from.ensures, c.from-relevant_lo.ensures)

pub overflow_sub-result : goal.overflow_sub-result
overflow_sub-result c = omega (arith, ints, c.from-2.ensures, c.from-relevant_hi.ensures)

pub overflow_sub-result-2 : goal.overflow_sub-result-2
overflow_sub-result-2 c = omega (arith, ints, c.from-relevant_lo.ensures, c.from-3.ensures)

pub overflow_add-result-2 : goal.overflow_add-result-2
overflow_add-result-2 c = omega (arith, ints, c.from-4.ensures, c.from-relevant_hi.ensures)

pub overflow_sub-result-3 : goal.overflow_sub-result-3
overflow_sub-result-3 c = omega (arith, ints, c.from-4.ensures, c.from-relevant_hi.ensures)

pub returns : goal.returns
returns c =
    let s = c.args.self in
    let least_lo : s.least_lo < 2 ^ 64 = omega arith in
    let least_hi : s.least_hi < 2 ^ 64 = omega arith in
    let most_lo : s.most_lo < 2 ^ 64 = omega arith in
    let most_hi : s.most_hi < 2 ^ 64 = omega arith in
    let relevant_lo : s.relevant_lo < 2 ^ 64 = omega arith in
    let relevant_hi : s.relevant_hi < 2 ^ 64 = omega arith in
    let lower = sum_is s.least_lo s.relevant_lo _ _ least_lo relevant_lo c.from.ensures c.from-relevant_lo.ensures in
    let upper = difference_is s.least_hi s.relevant_hi _ _ least_hi relevant_hi c.from-2.ensures c.from-relevant_hi.ensures in
    let low = difference_is s.relevant_lo s.most_lo _ _ relevant_lo most_lo c.from-relevant_lo.ensures c.from-3.ensures in
    let high = negated_is (s.most_hi + s.relevant_hi) _ (omega (arith, most_hi, relevant_hi)) (sum_is s.most_hi s.relevant_hi _ _ most_hi relevant_hi c.from-4.ensures c.from-relevant_hi.ensures) in
    record {
      least_lo = lower;
      least_hi = upper;
      most_lo = low;
      most_hi = high;
      least_loose = (within_sum _ _ _ least_lo relevant_lo lower, within_difference _ _ _ least_hi relevant_hi upper);
      most_loose = (within_difference _ _ _ relevant_lo most_lo low, within_negated _ _ _ most_hi relevant_hi high);
    }
