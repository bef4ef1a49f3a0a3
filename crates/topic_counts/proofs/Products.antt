-- The product of a unit and a number, in 128 bits: it is small, and what the code reads is the number itself.
use Rattle.std.proofs.Common.{◌^◌, ℤ, pos, neg_ℤ, ◌*ℤ◌, ◌≤ℤ◌, ◌<ℤ◌, FitsSigned, to_z, of_z, arith, ap, sym, subst, ◌∙◌}
use Rattle.std.specs.Int.{w128}
use Rattle.std.proofs.lemmas.Int.{ints, to_z-of_z}
use Rattle.desk_model.specs.Floors.{IsFloor, IsCeiling}
use Rattle.desk_model.proofs.Floors.{product_within, product_read, floor_read, ceiling_read}

near_fits : (z : ℤ) → neg_ℤ (pos (10 ^ 28)) ≤ℤ z → z ≤ℤ pos (10 ^ 28) → FitsSigned w128 z
near_fits z h k = omega (arith, ints)

above_nothing : (z : ℤ) → pos 1 ≤ℤ z → pos 0 <ℤ z
above_nothing z h = omega (arith, ints)

pub positive_read : (z : ℤ) → FitsSigned w128 z → pos 1 ≤ℤ z → pos 0 <ℤ to_z w128 (of_z w128 z)
positive_read z f h = subst (λ y. pos 0 <ℤ y) (sym (to_z-of_z w128 z f)) (above_nothing z h)

module _ (u n : ℤ) (h : pos 1 ≤ℤ u) (k : u ≤ℤ pos (10 ^ 18)) (l : neg_ℤ (pos (10 ^ 9)) ≤ℤ n) (m : n ≤ℤ pos (10 ^ 9)) where
  pub product_fits : FitsSigned w128 u → FitsSigned w128 n → FitsSigned w128 (to_z w128 (of_z w128 u) *ℤ to_z w128 (of_z w128 n))
  product_fits f g =
      let range = product_within u n h k l m in
      subst (FitsSigned w128) (sym (ap (λ x. x *ℤ to_z w128 (of_z w128 n)) (to_z-of_z w128 u f) ∙ ap (λ x. u *ℤ x) (to_z-of_z w128 n g))) (near_fits (u *ℤ n) range.0 range.1)

  pub product_low : neg_ℤ (pos (10 ^ 28)) ≤ℤ to_z w128 (of_z w128 (to_z w128 (of_z w128 u) *ℤ to_z w128 (of_z w128 n)))
  product_low = subst (λ z. neg_ℤ (pos (10 ^ 28)) ≤ℤ z) (sym (product_read u n h k l m)) (product_within u n h k l m).0

  pub product_high : to_z w128 (of_z w128 (to_z w128 (of_z w128 u) *ℤ to_z w128 (of_z w128 n))) ≤ℤ pos (10 ^ 28)
  product_high = subst (λ z. z ≤ℤ pos (10 ^ 28)) (sym (product_read u n h k l m)) (product_within u n h k l m).1

  pub product_floor : (d z : ℤ) → FitsSigned w128 d → FitsSigned w128 z → IsFloor (to_z w128 (of_z w128 (to_z w128 (of_z w128 u) *ℤ to_z w128 (of_z w128 n)))) (to_z w128 (of_z w128 d)) z →
      IsFloor (u *ℤ n) d (to_z w128 (of_z w128 z))
  product_floor d z f g is = subst (IsFloor (u *ℤ n) d) (sym (to_z-of_z w128 z g)) (floor_read (u *ℤ n) d _ _ z (product_read u n h k l m) (to_z-of_z w128 d f) is)

  pub product_ceiling : (d z : ℤ) → FitsSigned w128 d → FitsSigned w128 z → IsCeiling (to_z w128 (of_z w128 (to_z w128 (of_z w128 u) *ℤ to_z w128 (of_z w128 n)))) (to_z w128 (of_z w128 d)) z →
      IsCeiling (u *ℤ n) d (to_z w128 (of_z w128 z))
  product_ceiling d z f g is = subst (IsCeiling (u *ℤ n) d) (sym (to_z-of_z w128 z g)) (ceiling_read (u *ℤ n) d _ _ z (product_read u n h k l m) (to_z-of_z w128 d f) is)
