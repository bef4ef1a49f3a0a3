-- The ceiling of a difference of two reciprocal ranks.
use Rattle.std.proofs.Common.{◌≡◌, ℕ, ◌^◌, Option, ℤ, pos, ◌*ℤ◌, subst}
use Rattle.desk_model.specs.Extremes.{IsSmallest}
use Rattle.desk_model.specs.Floors.{IsCeiling}
use Rattle.desk_model.specs.Fraction.{IsAtLeast}
use Rattle.desk_model.specs.Score.{reciprocal}
use Rattle.topic_ends.specs.Differences.{IsDifferenceOf, lead_of, whole_of, rank_lead}
use Rattle.topic_ends.specs.declared.difference.Difference.{Difference}

pub ranks_upper : (x y p q : Option ℕ) (d : Difference) (z w : ℤ) → x ≡ p → y ≡ q → IsDifferenceOf p q d → w ≡ z → IsCeiling (pos (10 ^ 18) *ℤ lead_of d) (pos (whole_of d)) z → IsSmallest (λ v. IsAtLeast v (10 ^ 18) (reciprocal x) (reciprocal y)) w
ranks_upper x y p q d z w ex ey h e ceiling =
    rw (ex, ey, e) (subst (λ (n : ℕ). IsCeiling (pos (10 ^ 18) *ℤ rank_lead p q) (pos n) z) h.whole (subst (λ (n : ℤ). IsCeiling (pos (10 ^ 18) *ℤ n) (pos (whole_of d)) z) h.lead ceiling))
