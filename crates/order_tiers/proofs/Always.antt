-- Means that are always above others.
use Rattle.std.proofs.Common.{ℕ, zero, suc, ◌+◌, ◌*◌, ◌<◌, ◌≤◌, List, arith, inl, inr}
use Rattle.std.proofs.Math.Nat.{mul-le-mul_left, mul-le-mul_right}
use Rattle.std.proofs.lemmas.Bool.{cases_lt}
use Rattle.desk_model.specs.Fraction.{Fraction, IsBelow}
use Rattle.desk_model.specs.Order.{Topic, run_mean, IsAlwaysAbove}
use Rattle.desk_model.specs.declared.types.MeasureName.{MeasureName}
use Rattle.desk_model.proofs.Completions.{some_completion}
use Rattle.order_tiers.specs.Chains.{IsTransitive, IsIrreflexive, IsCertifiedAbove}
use Rattle.order_tiers.proofs.Chaining.{least}

-- what is above something has a positive factor
positive_factor : (m n k : ℕ) → m < n * k → 0 < k
positive_factor m n zero h = absurd (omega (arith, h))
positive_factor m n (suc k) h = omega arith

cancel : (u m n : ℕ) → u * m < u * n → m < n
cancel u m n h = elim (cases_lt m n) [ inl less ↦ less | inr more ↦ absurd (omega (arith, mul-le-mul_left u more, h)) ]

-- x/a < y/b and y/b < z/c
trans_numbers : (x a y b z c : ℕ) → x * b < y * a → y * c < z * b → x * c < z * a
trans_numbers x a y b z c h k =
    let some = positive_factor (x * b) y a h in
    let left : x * b * c + c ≤ y * a * c = omega (arith, mul-le-mul_right c h) in
    let right : y * c * a + a ≤ z * b * a = omega (arith, mul-le-mul_right a k) in
    cancel b (x * c) (z * a) (omega (arith, left, right, some))

below-trans : (x y z : Fraction) → IsBelow x y → IsBelow y z → IsBelow x z
below-trans x y z h k = trans_numbers x.num x.den y.num y.den z.num z.den h k

module _ (measure : MeasureName) (topics : List Topic) where
  pub always_trans : IsTransitive (IsAlwaysAbove measure topics)
  always_trans a b c h k = record {
    in_every = λ cs is. below-trans (run_mean measure c topics cs) (run_mean measure b topics cs) (run_mean measure a topics cs) (k.in_every cs is) (h.in_every cs is);
  }

  pub never_itself : IsIrreflexive (IsAlwaysAbove measure topics)
  never_itself a h =
      let some = some_completion topics in
      let below = h.in_every some.0 some.1 in
      absurd (omega (arith, below))

  module _ (Above : ℕ → ℕ → Type 0) (holds : (a b : ℕ) → Above a b → IsAlwaysAbove measure topics a b) where
    pub certified_above : (a b : ℕ) → IsCertifiedAbove Above a b → IsAlwaysAbove measure topics a b
    certified_above = least Above (IsAlwaysAbove measure topics) always_trans holds

    pub never_certified : IsIrreflexive (IsCertifiedAbove Above)
    never_certified a h = never_itself a (certified_above a a h)
