-- The greatest whole number below all of some differences, as they are seen one by one.
use Rattle.std.proofs.Common.{◌≡◌, ℕ, suc, ◌^◌, ◌≤◌, List, ◌⊎◌, inl, inr, ℤ, pos, negsuc, ◌*ℤ◌, ◌≤ℤ◌, arith, refl, sym, subst}
use Rattle.std.proofs.lemmas.Int.{ints}
use Rattle.std.proofs.Math.Nat.{mul-le-mul_right}
use Rattle.desk_model.specs.Extremes.{InEvery, IsGreatest}
use Rattle.desk_model.specs.Fraction.{IsAtMost}
use Rattle.desk_model.specs.declared.types.Mark.{Mark}
use Rattle.desk_model.specs.declared.types.MeasureName.{MeasureName}
use Rattle.measure_laws.specs.LeastDifference.{IsSmallestOf}
use Rattle.topic_ends.specs.Differences.{IsLowered, lead_of, whole_of}
use Rattle.topic_ends.specs.declared.difference.Difference.{Difference}

-- at most a fraction, in units
abbrev pub IsUnder : ℤ → ℕ → ℤ → Type 0
IsUnder num den w = (w *ℤ pos den) ≤ℤ (pos (10 ^ 18) *ℤ num)

-- at most each of some fractions
abbrev pub IsBelow : {X : Type 0} → (X → Type 0) → (X → ℤ) → (X → ℕ) → ℤ → Type 0
IsBelow {X} among num den w = (x : X) → among x → IsUnder (num x) (den x) w

-- the greatest such number is the lower end
pub smallest_is : {X : Type 0} (m : MeasureName) (marks : List Mark) (a b : List ℕ) (among : X → Type 0) (num : X → ℤ) (den : X → ℕ) (z : ℤ) → IsSmallestOf m marks a b among num den →
    IsGreatest (IsBelow among num den) z → IsGreatest (λ w. InEvery m marks a b (IsAtMost w (10 ^ 18))) z
smallest_is m marks a b among num den z of low = record { so = (of.below z (10 ^ 18)).1 low.so; others = λ w h. low.others w ((of.below w (10 ^ 18)).0 h) }

times_more : (z w : ℤ) (d : ℕ) → z ≤ℤ w → (z *ℤ pos d) ≤ℤ (w *ℤ pos d)
times_more (pos a) (pos b) d h = let p : a ≤ b = omega (arith, ints) in omega (arith, ints, mul-le-mul_right d p)
times_more (pos a) (negsuc b) d h = absurd (omega (arith, ints))
times_more (negsuc a) (pos b) d h = omega (arith, ints)
times_more (negsuc a) (negsuc b) d h = let p : suc b ≤ suc a = omega (arith, ints) in omega (arith, ints, mul-le-mul_right d p)

under_less : (num : ℤ) (den : ℕ) (z w : ℤ) → z ≤ℤ w → IsUnder num den w → IsUnder num den z
under_less num den z w h k = omega (arith, ints, times_more z w den h, k)

-- ---- one fraction more
-- those after it are those before it, and the one
pub record IsOneMore {X : Type 0} (before after : X → Type 0) (one : X) : Type 0 where
  pub old : (x : X) → before x → after x
  pub new : after one
  pub only : (x : X) → after x → before x ⊎ (one ≡ x)

pub low_more : {X : Type 0} (before after : X → Type 0) (one : X) (num : X → ℤ) (den : X → ℕ) (d : Difference) (low next : ℤ) → IsOneMore before after one → IsGreatest (IsBelow before num den) low →
    lead_of d ≡ num one → whole_of d ≡ den one → IsLowered d low next → IsGreatest (IsBelow after num den) next
low_more {X} before after one num den d low next more seen el ew lowered =
    let there : IsUnder (num one) (den one) next = subst (λ (n : ℤ). IsUnder n (den one) next) el (subst (λ (n : ℕ). IsUnder (lead_of d) n next) ew lowered.so.1) in
    record {
      so = λ x h. elim (more.only x h) [
        | inl old ↦ under_less (num x) (den x) next low lowered.so.0 (seen.so x old)
        | inr same ↦ subst (λ (y : X). IsUnder (num y) (den y) next) same there
      ];
      others = λ w h. lowered.others w (
        seen.others w (λ x k. h x (more.old x k)),
        subst (λ (n : ℤ). IsUnder n (whole_of d) w) (sym el) (subst (λ (n : ℕ). IsUnder (num one) n w) (sym ew) (h one more.new)),
      );
    }

-- the same, where those after it are no more than that
pub low_added : {X : Type 0} (before : X → Type 0) (one : X) (num : X → ℤ) (den : X → ℕ) (d : Difference) (low next : ℤ) → IsGreatest (IsBelow before num den) low →
    lead_of d ≡ num one → whole_of d ≡ den one → IsLowered d low next → IsGreatest (IsBelow (λ x. before x ⊎ (one ≡ x)) num den) next
low_added before one num den d low next seen el ew lowered =
    low_more before (λ x. before x ⊎ (one ≡ x)) one num den d low next (record { old = λ x h. inl h; new = inr refl; only = λ x h. h }) seen el ew lowered

-- the first fraction
pub low_first : {X : Type 0} (among : X → Type 0) (one : X) (num : X → ℤ) (den : X → ℕ) (d : Difference) (z : ℤ) → among one → ((x : X) → among x → one ≡ x) →
    lead_of d ≡ num one → whole_of d ≡ den one → IsGreatest (IsUnder (lead_of d) (whole_of d)) z → IsGreatest (IsBelow among num den) z
low_first {X} among one num den d z here only el ew floor = record {
  so = λ x h. subst (λ (y : X). IsUnder (num y) (den y) z) (only x h) (subst (λ (n : ℤ). IsUnder n (den one) z) el (subst (λ (n : ℕ). IsUnder (lead_of d) n z) ew floor.so));
  others = λ w h. floor.others w (subst (λ (n : ℤ). IsUnder n (whole_of d) w) (sym el) (subst (λ (n : ℕ). IsUnder (num one) n w) (sym ew) (h one here)));
}

-- the same fractions
pub low_same : {X : Type 0} (before after : X → Type 0) (num : X → ℤ) (den : X → ℕ) (z : ℤ) → ((x : X) → before x → after x) → ((x : X) → after x → before x) → IsGreatest (IsBelow before num den) z → IsGreatest (IsBelow after num den) z
low_same before after num den z there back seen = record { so = λ x h. seen.so x (back x h); others = λ w h. seen.others w (λ x k. h x (there x k)) }
