-- Whole numbers times natural ones: their order and their sizes.
use Rattle.std.proofs.Common.{◌≡◌, ℕ, suc, ◌*◌, ◌^◌, ◌<◌, ◌≤◌, ℤ, pos, negsuc, neg_ℤ, ◌*ℤ◌, ◌≤ℤ◌, FitsSigned, to_z, of_z, arith, ap, ◌∙◌}
use Rattle.std.specs.Int.{w128}
use Rattle.std.proofs.lemmas.Int.{ints}
use Rattle.std.proofs.Math.Nat.{mul-le-mul, mul-le-mul_left, le_of_mul-le-mul_right}
use Rattle.desk_model.specs.Floors.{IsFloor, IsCeiling}
use Rattle.topic_counts.specs.Ends.{IsNear}

-- a common factor
pub times_order : (z w : ℤ) (d : ℕ) → 0 < d → (z *ℤ pos d) ≤ℤ (w *ℤ pos d) → z ≤ℤ w
times_order (pos a) (pos b) d h k = let p : a * d ≤ b * d = omega (arith, ints) in omega (arith, ints, le_of_mul-le-mul_right p h)
times_order (pos a) (negsuc b) d h k = absurd (omega (arith, ints))
times_order (negsuc a) (pos b) d h k = omega (arith, ints)
times_order (negsuc a) (negsuc b) d h k = let p : suc b * d ≤ suc a * d = omega (arith, ints) in omega (arith, ints, le_of_mul-le-mul_right p h)

product_small : (a n : ℕ) → a ≤ 10 ^ 30 → n ≤ 10 ^ 8 → a * n ≤ 10 ^ 38
product_small a n h k = mul-le-mul h k

pub times_small : (z : ℤ) (n : ℕ) → IsNear z → n ≤ 10 ^ 8 → (neg_ℤ (pos (10 ^ 38)) ≤ℤ (z *ℤ pos n)) × ((z *ℤ pos n) ≤ℤ pos (10 ^ 38))
times_small (pos a) n h k = omega (arith, ints, product_small a n (omega (arith, ints)) k)
times_small (negsuc a) n h k = omega (arith, ints, product_small (suc a) n (omega (arith, ints)) k)

-- the product that the code makes
pub times_read : (x y z : ℤ) (n : ℕ) → x ≡ z → y ≡ pos n → IsNear z → n ≤ 10 ^ 8 → to_z w128 (of_z w128 (x *ℤ y)) ≡ z *ℤ pos n
times_read x y z n e f h k =
    let range = times_small z n h k in
    let small : to_z w128 (of_z w128 (z *ℤ pos n)) ≡ z *ℤ pos n = omega (arith, ints, range) in
    ap (λ v. to_z w128 (of_z w128 (v *ℤ y))) e ∙ ap (λ v. to_z w128 (of_z w128 (z *ℤ v))) f ∙ small

pub times_fits : (x y z : ℤ) (n : ℕ) → x ≡ z → y ≡ pos n → IsNear z → n ≤ 10 ^ 8 → FitsSigned w128 (x *ℤ y)
times_fits x y z n e f h k = let range = times_small z n h k in rw (e, f) (omega (arith, ints, range))

floor_high : (n z : ℤ) (d : ℕ) → 0 < d → n ≤ℤ pos (10 ^ 26) → (z *ℤ pos d) ≤ℤ n → z ≤ℤ pos (10 ^ 30)
floor_high n (pos a) d h k l = omega (arith, ints, mul-le-mul_left a h)
floor_high n (negsuc a) d h k l = omega (arith, ints)

-- a floor of a number from -10^26 to 10^26
pub floor_near : (n z : ℤ) (d : ℕ) → 0 < d → neg_ℤ (pos (10 ^ 26)) ≤ℤ n → n ≤ℤ pos (10 ^ 26) → IsFloor n (pos d) z → IsNear z
floor_near n z d h low high floor =
    let least : neg_ℤ (pos (10 ^ 26)) ≤ℤ z = floor.others (neg_ℤ (pos (10 ^ 26))) (omega (arith, ints)) in
    (omega (arith, ints), floor_high n z d h high floor.so)

-- a whole number is the ceiling of its multiple
pub ceiling_whole : (z : ℤ) (d : ℕ) → 0 < d → IsCeiling (pos d *ℤ z) (pos d) z
ceiling_whole z d h = record { so = turned z; others = λ w k. times_order z w d h (back z w k) }
  where
    turned : (z : ℤ) → (pos d *ℤ z) ≤ℤ (z *ℤ pos d)
    turned (pos a) = omega (arith, ints)
    turned (negsuc a) = omega (arith, ints)

    back : (z w : ℤ) → (pos d *ℤ z) ≤ℤ (w *ℤ pos d) → (z *ℤ pos d) ≤ℤ (w *ℤ pos d)
    back (pos a) w k = omega (arith, ints)
    back (negsuc a) w k = omega (arith, ints)
