-- The floor and the ceiling of a difference of two fractions are its ends.
use Rattle.std.proofs.Common.{◌≡◌, ℕ, ◌*◌, ◌<◌, ℤ, pos, neg_ℤ, ◌*ℤ◌, ◌-ℤ◌, refl, ap, ◌∙◌, subst}
use Rattle.std.proofs.Math.Nat.{mul-pos}
use Rattle.desk_model.specs.Fraction.{Fraction, IsAtMost, IsAtLeast}
use Rattle.desk_model.specs.Extremes.{IsGreatest, IsSmallest}
use Rattle.measure_laws.proofs.Unique.{greatest_unique, smallest_unique}
use Rattle.topic_counts.specs.Ends.{IsFloor, IsCeiling}
use Rattle.topic_counts.specs.Numbers.{floor_of, ceiling_of, scaled_difference, difference_span}
use Rattle.desk_model.proofs.Floors.{is_floor, ceiling_is}
use Rattle.topic_counts.specs.declared.span.Span.{Span}

pub is_ceiling : (n : ℤ) (d : ℕ) → 0 < d → IsCeiling n (pos d) (ceiling_of n d)
is_ceiling n d h = ceiling_is n (neg_ℤ n) (pos d) (floor_of (neg_ℤ n) d) (ceiling_of n d) refl refl (is_floor (neg_ℤ n) d h)

pub difference_floor : (u : ℕ) (x y : Fraction) → 0 < x.den → 0 < y.den → IsGreatest (λ z. IsAtMost z u x y) (difference_span u x y).lo
unfolding difference_span
difference_floor u x y p q = is_floor (scaled_difference u x y) (x.den * y.den) (mul-pos p q)

pub difference_ceiling : (u : ℕ) (x y : Fraction) → 0 < x.den → 0 < y.den → IsSmallest (λ z. IsAtLeast z u x y) (difference_span u x y).hi
unfolding difference_span
difference_ceiling u x y p q = is_ceiling (scaled_difference u x y) (x.den * y.den) (mul-pos p q)

-- a span of two numbers
abbrev pub span : ℤ → ℤ → Span
span lo hi = record { lo = lo; hi = hi }

pub span_same : (lo lo' hi hi' : ℤ) → lo ≡ lo' → hi ≡ hi' → span lo hi ≡ span lo' hi'
span_same lo lo' hi hi' e f = ap (λ z. span z hi) e ∙ ap (λ z. span lo' z) f

-- two ends that are the floor and the ceiling
pub span_unique : (u : ℕ) (x y : Fraction) (s : Span) → 0 < x.den → 0 < y.den → IsGreatest (λ z. IsAtMost z u x y) s.lo → IsSmallest (λ z. IsAtLeast z u x y) s.hi → s ≡ difference_span u x y
span_unique u x y s p q low high =
    span_same s.lo (difference_span u x y).lo s.hi (difference_span u x y).hi
    (greatest_unique (λ z. IsAtMost z u x y) s.lo (difference_span u x y).lo low (difference_floor u x y p q))
    (smallest_unique (λ z. IsAtLeast z u x y) s.hi (difference_span u x y).hi high (difference_ceiling u x y p q))

-- what `span_of` answers where its numerator and its denominator are those of the difference
pub span_is : (u : ℕ) (x y : Fraction) (num den : ℤ) (s : Span) → 0 < x.den → 0 < y.den → num ≡ pos (x.num * y.den) -ℤ pos (y.num * x.den) → den ≡ pos (x.den * y.den) →
    IsFloor (pos u *ℤ num) den s.lo → IsCeiling (pos u *ℤ num) den s.hi → s ≡ difference_span u x y
span_is u x y num den s p q en ed low high =
    span_unique u x y s p q
    (subst (λ (d : ℤ). IsFloor (scaled_difference u x y) d s.lo) ed (subst (λ (n : ℤ). IsFloor (pos u *ℤ n) den s.lo) en low))
    (subst (λ (d : ℤ). IsCeiling (scaled_difference u x y) d s.hi) ed (subst (λ (n : ℤ). IsCeiling (pos u *ℤ n) den s.hi) en high))

-- the same, where the numerator and the denominator are read from signed numbers
pub span_read : (u : ℕ) (x y : Fraction) (m n d num den : ℤ) (s : Span) → 0 < x.den → 0 < y.den → m ≡ pos (x.num * y.den) → n ≡ pos (y.num * x.den) → d ≡ pos (x.den * y.den) → num ≡ m -ℤ n → den ≡ d →
    IsFloor (pos u *ℤ num) den s.lo → IsCeiling (pos u *ℤ num) den s.hi → s ≡ difference_span u x y
span_read u x y m n d num den s p q em en ed e f low high =
    span_is u x y num den s p q (e ∙ ap (λ z. z -ℤ n) em ∙ ap (λ z. pos (x.num * y.den) -ℤ z) en) (f ∙ ed) low high
