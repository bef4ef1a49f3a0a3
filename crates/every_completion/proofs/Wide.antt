-- Numbers of 128 bits: what the code computes there is the number itself, since each of them is small.
use Rattle.std.proofs.Common.{◌≡◌, ℕ, ◌*◌, ◌^◌, ◌<◌, ◌≤◌, ℤ, pos, negsuc, neg_ℤ, ◌-ℤ◌, ◌*ℤ◌, ◌≤ℤ◌, ◌<ℤ◌, unsigned_abs, w64, Fits, FitsSigned, to_z, of_z, arith, ap, sym, subst, ◌∙◌, mul-pos}
use Rattle.std.specs.Int.{w128, int_min, int_max}
use Rattle.std.proofs.lemmas.Int.{ints, to_z-of_z, to_z_pos, fits_signed_from_abs, unsigned_abs-mul}
use Rattle.std.proofs.Math.Nat.{mul-le-mul}

-- a natural number
pub natural_fits : (n : ℕ) → n ≤ 10 ^ 18 → FitsSigned w128 (pos n)
natural_fits n h = record { sfits = omega arith }

pub natural_read : (n : ℕ) → n ≤ 10 ^ 18 → to_z w128 n ≡ pos n
natural_read n h = to_z_pos w128 n (omega arith)

-- a number whose absolute value is small
small_fits : (z : ℤ) → unsigned_abs z ≤ 10 ^ 30 → FitsSigned w128 z
small_fits z h = fits_signed_from_abs w128 z (omega arith)

small_low : (z : ℤ) → unsigned_abs z ≤ 10 ^ 30 → neg_ℤ (pos (10 ^ 30)) ≤ℤ z
small_low (pos n) h = omega (arith, ints)
small_low (negsuc n) h = omega (arith, ints)

small_high : (z : ℤ) → unsigned_abs z ≤ 10 ^ 30 → z ≤ℤ pos (10 ^ 30)
small_high (pos n) h = omega (arith, ints)
small_high (negsuc n) h = omega (arith, ints)

difference_small : (m l : ℕ) → m ≤ 10 ^ 12 → l ≤ 10 ^ 12 → unsigned_abs (pos m -ℤ pos l) ≤ 10 ^ 12
difference_small m l h k = omega (arith, ints)

product_small : (u m l : ℕ) → u ≤ 10 ^ 18 → m ≤ 10 ^ 12 → l ≤ 10 ^ 12 → unsigned_abs (pos u *ℤ (pos m -ℤ pos l)) ≤ 10 ^ 30
product_small u m l g h k = subst (λ n. n ≤ 10 ^ 30) (sym (unsigned_abs-mul (pos u) (pos m -ℤ pos l))) (mul-le-mul g (difference_small m l h k))

-- the difference as the code reads it
difference_read : (m l : ℕ) → m ≤ 10 ^ 12 → l ≤ 10 ^ 12 → to_z w128 m -ℤ to_z w128 l ≡ pos m -ℤ pos l
difference_read m l h k = ap (λ z. z -ℤ to_z w128 l) (natural_read m (omega arith)) ∙ ap (λ z. pos m -ℤ z) (natural_read l (omega arith))

difference_fits : (m l : ℕ) → m ≤ 10 ^ 12 → l ≤ 10 ^ 12 → FitsSigned w128 (pos m -ℤ pos l)
difference_fits m l h k = fits_signed_from_abs w128 (pos m -ℤ pos l) (omega (arith, difference_small m l h k))

pub read_difference_fits : (m l : ℕ) → m ≤ 10 ^ 12 → l ≤ 10 ^ 12 → FitsSigned w128 (to_z w128 m -ℤ to_z w128 l)
read_difference_fits m l h k = subst (FitsSigned w128) (sym (difference_read m l h k)) (difference_fits m l h k)

-- a number times the difference, as the code reads it
product_read : (u m l : ℕ) → u ≤ 10 ^ 18 → m ≤ 10 ^ 12 → l ≤ 10 ^ 12 → to_z w128 u *ℤ to_z w128 (of_z w128 (to_z w128 m -ℤ to_z w128 l)) ≡ pos u *ℤ (pos m -ℤ pos l)
product_read u m l g h k =
    ap (λ z. z *ℤ to_z w128 (of_z w128 (to_z w128 m -ℤ to_z w128 l))) (natural_read u g)
    ∙ ap (λ z. pos u *ℤ z) (ap (λ z. to_z w128 (of_z w128 z)) (difference_read m l h k) ∙ to_z-of_z w128 (pos m -ℤ pos l) (difference_fits m l h k))

pub read_product_fits : (u m l : ℕ) → u ≤ 10 ^ 18 → m ≤ 10 ^ 12 → l ≤ 10 ^ 12 → FitsSigned w128 (to_z w128 u *ℤ to_z w128 (of_z w128 (to_z w128 m -ℤ to_z w128 l)))
read_product_fits u m l g h k = subst (FitsSigned w128) (sym (product_read u m l g h k)) (small_fits (pos u *ℤ (pos m -ℤ pos l)) (product_small u m l g h k))

pub product_is : (u m l : ℕ) → u ≤ 10 ^ 18 → m ≤ 10 ^ 12 → l ≤ 10 ^ 12 → to_z w128 (of_z w128 (to_z w128 u *ℤ to_z w128 (of_z w128 (to_z w128 m -ℤ to_z w128 l)))) ≡ pos u *ℤ (pos m -ℤ pos l)
product_is u m l g h k = ap (λ z. to_z w128 (of_z w128 z)) (product_read u m l g h k) ∙ to_z-of_z w128 (pos u *ℤ (pos m -ℤ pos l)) (small_fits (pos u *ℤ (pos m -ℤ pos l)) (product_small u m l g h k))

pub product_low : (u m l : ℕ) → u ≤ 10 ^ 18 → m ≤ 10 ^ 12 → l ≤ 10 ^ 12 → neg_ℤ (pos (10 ^ 30)) ≤ℤ to_z w128 (of_z w128 (to_z w128 u *ℤ to_z w128 (of_z w128 (to_z w128 m -ℤ to_z w128 l))))
product_low u m l g h k = subst (λ z. neg_ℤ (pos (10 ^ 30)) ≤ℤ z) (sym (product_is u m l g h k)) (small_low (pos u *ℤ (pos m -ℤ pos l)) (product_small u m l g h k))

pub product_high : (u m l : ℕ) → u ≤ 10 ^ 18 → m ≤ 10 ^ 12 → l ≤ 10 ^ 12 → to_z w128 (of_z w128 (to_z w128 u *ℤ to_z w128 (of_z w128 (to_z w128 m -ℤ to_z w128 l)))) ≤ℤ pos (10 ^ 30)
product_high u m l g h k = subst (λ z. z ≤ℤ pos (10 ^ 30)) (sym (product_is u m l g h k)) (small_high (pos u *ℤ (pos m -ℤ pos l)) (product_small u m l g h k))

-- the parts of a score
pub part_small : (n d : ℕ) → n ≤ 10000 → d ≤ 25000000 → n * d ≤ 10 ^ 12
part_small n d h k = omega (arith, mul-le-mul h k)

pub whole_small : (d e : ℕ) → d ≤ 25000000 → e ≤ 25000000 → d * e ≤ 10 ^ 18
whole_small d e h k = omega (arith, mul-le-mul h k)

pub within_word : (n : ℕ) → n ≤ 10 ^ 12 → n ≤ 10 ^ 18
within_word n h = omega arith

pub small_word : (n : ℕ) → n ≤ 10 ^ 18 → Fits w64 n
small_word n h = record { fits = omega arith }

pub whole_positive : (d e : ℕ) → 0 < d → 0 < e → d ≤ 25000000 → e ≤ 25000000 → pos 0 <ℤ to_z w128 (d * e)
whole_positive d e p q h k = subst (λ z. pos 0 <ℤ z) (sym (natural_read (d * e) (whole_small d e h k))) (omega (arith, ints, mul-pos p q))

-- a number of 128 bits, as the code reads it
pub low_read : (z : ℤ) → FitsSigned w128 z → neg_ℤ (pos (10 ^ 30)) ≤ℤ z → neg_ℤ (pos (10 ^ 30)) ≤ℤ to_z w128 (of_z w128 z)
low_read z f h = subst (λ y. neg_ℤ (pos (10 ^ 30)) ≤ℤ y) (sym (to_z-of_z w128 z f)) h

pub high_read : (z : ℤ) → FitsSigned w128 z → z ≤ℤ pos (10 ^ 30) → to_z w128 (of_z w128 z) ≤ℤ pos (10 ^ 30)
high_read z f h = subst (λ y. y ≤ℤ pos (10 ^ 30)) (sym (to_z-of_z w128 z f)) h

pub min_read : (x y r : ℤ) → FitsSigned w128 x → FitsSigned w128 y → FitsSigned w128 r → r ≡ int_min (to_z w128 (of_z w128 x)) (to_z w128 (of_z w128 y)) → to_z w128 (of_z w128 r) ≡ int_min x y
min_read x y r f g h e = to_z-of_z w128 r h ∙ e ∙ ap (λ z. int_min z (to_z w128 (of_z w128 y))) (to_z-of_z w128 x f) ∙ ap (int_min x) (to_z-of_z w128 y g)

pub max_read : (x y r : ℤ) → FitsSigned w128 x → FitsSigned w128 y → FitsSigned w128 r → r ≡ int_max (to_z w128 (of_z w128 x)) (to_z w128 (of_z w128 y)) → to_z w128 (of_z w128 r) ≡ int_max x y
max_read x y r f g h e = to_z-of_z w128 r h ∙ e ∙ ap (λ z. int_max z (to_z w128 (of_z w128 y))) (to_z-of_z w128 x f) ∙ ap (int_max x) (to_z-of_z w128 y g)
