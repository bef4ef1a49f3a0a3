-- Division rounds down to the floor, and what that makes of a negated number.
use Rattle.std.proofs.Common.{◌≡◌, ℕ, suc, ◌*◌, ◌^◌, ◌<◌, ◌≤◌, ℤ, pos, negsuc, neg_ℤ, ◌*ℤ◌, ◌≤ℤ◌, ◌<ℤ◌, to_z, of_z, arith, ap, subst, ◌∙◌}
use Rattle.std.specs.Int.{int_div_euclid, w128}
use Rattle.std.proofs.lemmas.Int.{ints}
use Rattle.std.proofs.Math.Nat.{mul-le-mul}
use Rattle.std.proofs.lemmas.Nat.{le-div, div_below}
use borrow.Author.Differences.{up, down, neg_is}
use Rattle.desk_model.specs.Floors.{IsFloor, IsCeiling}

floor_most : (n : ℤ) (d : ℕ) → 0 < d → (int_div_euclid n (pos d) *ℤ pos d) ≤ℤ n
floor_most (pos a) d h = omega (arith, ints)
floor_most (negsuc a) d h = omega (arith, ints)

floor_greatest : (n w : ℤ) (d : ℕ) → 0 < d → (w *ℤ pos d) ≤ℤ n → w ≤ℤ int_div_euclid n (pos d)
floor_greatest (pos a) (pos w) d h k = let p : w * d ≤ a = omega (arith, ints) in omega (arith, ints, le-div w a d h p)
floor_greatest (pos a) (negsuc w) d h k = omega (arith, ints)
floor_greatest (negsuc a) (pos w) d h k = absurd (omega (arith, ints))
floor_greatest (negsuc a) (negsuc w) d h k = let p : a < suc w * d = omega (arith, ints) in omega (arith, ints, div_below a d (suc w) h p)

pub is_floor : (n : ℤ) (d : ℕ) → 0 < d → IsFloor n (pos d) (int_div_euclid n (pos d))
is_floor n d h = record { so = floor_most n d h; others = λ w k. floor_greatest n w d h k }

pub floor_is : (n d z : ℤ) → pos 0 <ℤ d → z ≡ int_div_euclid n d → IsFloor n d z
floor_is n (pos e) z h same = rw same (is_floor n e (omega (arith, ints)))
floor_is n (negsuc e) z h same = absurd (omega (arith, ints))

neg_times : (f d : ℤ) → neg_ℤ f *ℤ d ≡ neg_ℤ (f *ℤ d)
neg_times f d =
    let parts = neg_is f in
    omega (arith, ints, ap (λ s. s * up d) parts.0, ap (λ s. s * down d) parts.0, ap (λ s. s * up d) parts.1, ap (λ s. s * down d) parts.1)

-- the same numbers, as the code reads them
pub floor_read : (n d n' d' z : ℤ) → n' ≡ n → d' ≡ d → IsFloor n' d' z → IsFloor n d z
floor_read n d n' d' z e f h = subst (λ (x : ℤ). IsFloor n x z) f (subst (λ (x : ℤ). IsFloor x d' z) e h)

pub ceiling_read : (n d n' d' z : ℤ) → n' ≡ n → d' ≡ d → IsCeiling n' d' z → IsCeiling n d z
ceiling_read n d n' d' z e f h = subst (λ (x : ℤ). IsCeiling n x z) f (subst (λ (x : ℤ). IsCeiling x d' z) e h)

turn_so : (n m d f : ℤ) → m ≡ neg_ℤ n → (f *ℤ d) ≤ℤ m → n ≤ℤ (neg_ℤ f *ℤ d)
turn_so n m d f em h = omega (arith, ints, neg_times f d)

turn_given : (n m d w : ℤ) → m ≡ neg_ℤ n → n ≤ℤ (w *ℤ d) → (neg_ℤ w *ℤ d) ≤ℤ m
turn_given n m d w em h = omega (arith, ints, neg_times w d)

turn_others : (f w : ℤ) → neg_ℤ w ≤ℤ f → neg_ℤ f ≤ℤ w
turn_others f w h = omega (arith, ints)

small : (a b : ℕ) → a ≤ 10 ^ 18 → b ≤ 10 ^ 9 → a * b ≤ 10 ^ 27
small a b h k = mul-le-mul h k

-- the ceiling is the negated floor of the negated number
pub ceiling_is : (n m d f z : ℤ) → m ≡ neg_ℤ n → z ≡ neg_ℤ f → IsFloor m d f → IsCeiling n d z
ceiling_is n m d f z em ez h = record {
  so = rw ez (turn_so n m d f em h.so);
  others = λ w k. rw ez (turn_others f w (h.others (neg_ℤ w) (turn_given n m d w em k)));
}

pub product_within : (u n : ℤ) → pos 1 ≤ℤ u → u ≤ℤ pos (10 ^ 18) → neg_ℤ (pos (10 ^ 9)) ≤ℤ n → n ≤ℤ pos (10 ^ 9) → (neg_ℤ (pos (10 ^ 28)) ≤ℤ (u *ℤ n)) × ((u *ℤ n) ≤ℤ pos (10 ^ 28))
product_within (pos a) (pos b) h k l m = omega (arith, ints, small a b (omega (arith, ints)) (omega (arith, ints)))
product_within (pos a) (negsuc b) h k l m = omega (arith, ints, small a (suc b) (omega (arith, ints)) (omega (arith, ints)))
product_within (negsuc a) n h k l m = absurd (omega (arith, ints))

-- the product that the code makes
pub product_read : (u n : ℤ) → pos 1 ≤ℤ u → u ≤ℤ pos (10 ^ 18) → neg_ℤ (pos (10 ^ 9)) ≤ℤ n → n ≤ℤ pos (10 ^ 9) → to_z w128 (of_z w128 (to_z w128 (of_z w128 u) *ℤ to_z w128 (of_z w128 n))) ≡ u *ℤ n
product_read u n h k l m =
    let first : to_z w128 (of_z w128 u) ≡ u = omega (arith, ints) in
    let second : to_z w128 (of_z w128 n) ≡ n = omega (arith, ints) in
    let range = product_within u n h k l m in
    let small : to_z w128 (of_z w128 (u *ℤ n)) ≡ u *ℤ n = omega (arith, ints, range) in
    ap (λ x. to_z w128 (of_z w128 (x *ℤ to_z w128 (of_z w128 n)))) first ∙ ap (λ x. to_z w128 (of_z w128 (u *ℤ x))) second ∙ small
