-- The floor and the ceiling of the difference of a least case are the two lower ends of a topic.
use Rattle.std.proofs.Common.{ℕ, ◌+◌, ◌*◌, ◌<◌, ◌≤◌, Bool, List, [], length, ℤ, arith}
use Rattle.std.proofs.Math.Nat.{mul-le-mul_left, mul-pos, le_of_mul-le-mul_right}
use borrow.Author.Differences.{up, down}
use Rattle.desk_model.specs.Fraction.{Fraction, IsAtMost, IsAtLeast}
use Rattle.desk_model.specs.Score.{score}
use Rattle.desk_model.specs.Extremes.{IsGreatest, IsSmallest, InEvery, InSome}
use Rattle.desk_model.proofs.Fractions.{at_most_out, at_least_out, at_most_in, at_least_in}
use Rattle.desk_model.proofs.Topics.{score-den}
use Rattle.measure_laws.specs.Differences.{IsNoGreater, IsLeastCase}
use Rattle.desk_model.specs.declared.types.Mark.{Mark}
use Rattle.desk_model.specs.declared.types.MeasureName.{MeasureName}

no_greater_step : (p n u a c d a' c' d' : ℕ) → 0 < d' → p * d' + u * c' ≤ u * a' + n * d' → a' * d + c * d' ≤ a * d' + c' * d → p * d + u * c ≤ u * a + n * d
no_greater_step p n u a c d a' c' d' h k l =
    let joined : (p * d + u * c) * d' ≤ (u * a + n * d) * d' = omega (arith, mul-le-mul_left d k, mul-le-mul_left u l) in
    le_of_mul-le-mul_right joined h

no_less_step : (p n u a c d a' c' d' : ℕ) → 0 < d → u * a + n * d ≤ p * d + u * c → a' * d + c * d' ≤ a * d' + c' * d → u * a' + n * d' ≤ p * d' + u * c'
no_less_step p n u a c d a' c' d' h k l =
    let joined : (u * a' + n * d') * d ≤ (p * d' + u * c') * d = omega (arith, mul-le-mul_left d' k, mul-le-mul_left u l) in
    le_of_mul-le-mul_right joined h

pub at_most_no_greater : (z : ℤ) (u : ℕ) (x y v w : Fraction) → 0 < x.den → 0 < y.den → IsAtMost z u x y → IsNoGreater x y v w → IsAtMost z u v w
at_most_no_greater z u x y v w p q h k =
    at_most_in z u v w (no_greater_step (up z) (down z) u (v.num * w.den) (w.num * v.den) (v.den * w.den) (x.num * y.den) (y.num * x.den) (x.den * y.den) (mul-pos p q) (at_most_out z u x y h) k)

pub at_least_no_greater : (z : ℤ) (u : ℕ) (x y v w : Fraction) → 0 < v.den → 0 < w.den → IsAtLeast z u v w → IsNoGreater x y v w → IsAtLeast z u x y
at_least_no_greater z u x y v w p q h k =
    at_least_in z u x y (no_less_step (up z) (down z) u (v.num * w.den) (w.num * v.den) (v.den * w.den) (x.num * y.den) (y.num * x.den) (x.den * y.den) (mul-pos p q) (at_least_out z u v w h) k)

-- its floor and its ceiling are the two lower ends
pub least_ends : (m : MeasureName) (u : ℕ) (marks : List Mark) (a b : List ℕ) (truth : ℕ → Bool) (lo hi : ℤ) → IsLeastCase m marks a b truth →
    let x = score m (length marks) truth a [] in
    let y = score m (length marks) truth b [] in
    IsGreatest (λ z. IsAtMost z u x y) lo → IsSmallest (λ z. IsAtLeast z u x y) hi →
    IsGreatest (λ z. InEvery m marks a b (IsAtMost z u)) lo × IsSmallest (λ z. InSome m marks a b (IsAtLeast z u)) hi
least_ends m u marks a b truth lo hi case floor ceiling = (
  record {
    so = λ t ta tb c. at_most_no_greater lo u _ _ _ _ (score-den m _ _ _ _) (score-den m _ _ _ _) floor.so (case.least t ta tb c);
    others = λ w h. floor.others w (h truth [] [] case.completes);
  },
  record {
    so = (truth, [], [], case.completes, ceiling.so);
    others = λ w h. ceiling.others w (at_least_no_greater w u _ _ _ _ (score-den m _ _ _ _) (score-den m _ _ _ _) h.4 (case.least h.0 h.1 h.2 h.3));
  },
)
