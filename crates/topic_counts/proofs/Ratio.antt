-- The floor and the ceiling of a difference of two fractions with one denominator.
use Rattle.std.proofs.Common.{◌≡◌, ℕ, ◌+◌, ◌<◌, ℤ, pos, ◌*ℤ◌, ◌-ℤ◌, subst}
use Rattle.desk_model.specs.Floors.{IsFloor, IsCeiling}
use Rattle.measure_laws.proofs.Ratios.{high_in, high_out, low_in, low_out, out_of}
use Rattle.topic_counts.specs.Numbers.{difference_span}
use Rattle.topic_counts.specs.declared.span.Span.{Span}
use Rattle.topic_counts.proofs.Spans.{span_unique}

-- what `span_of` answers where m less n is p less q
pub ratio_is : (u m n d p q : ℕ) (s : Span) → 0 < d → m + q ≡ n + p → IsFloor (pos u *ℤ (pos p -ℤ pos q)) (pos d) s.lo → IsCeiling (pos u *ℤ (pos p -ℤ pos q)) (pos d) s.hi →
    s ≡ difference_span u (out_of m d) (out_of n d)
ratio_is u m n d p q s pd e floor ceiling =
    span_unique u (out_of m d) (out_of n d) s pd pd
    (record { so = low_in s.lo u m n d p q e floor.so; others = λ w h. floor.others w (low_out w u m n d p q pd e h) })
    (record { so = high_in s.hi u m n d p q e ceiling.so; others = λ w h. ceiling.others w (high_out w u m n d p q pd e h) })

-- the same, where the numerator and the denominator are read from signed numbers
pub ratio_read : (u m n d p q : ℕ) (num den : ℤ) (s : Span) → 0 < d → m + q ≡ n + p → num ≡ pos p -ℤ pos q → den ≡ pos d →
    IsFloor (pos u *ℤ num) den s.lo → IsCeiling (pos u *ℤ num) den s.hi → s ≡ difference_span u (out_of m d) (out_of n d)
ratio_read u m n d p q num den s pd e en ed floor ceiling =
    ratio_is u m n d p q s pd e
    (subst (λ (x : ℤ). IsFloor (pos u *ℤ (pos p -ℤ pos q)) x s.lo) ed (subst (λ (x : ℤ). IsFloor (pos u *ℤ x) den s.lo) en floor))
    (subst (λ (x : ℤ). IsCeiling (pos u *ℤ (pos p -ℤ pos q)) x s.hi) ed (subst (λ (x : ℤ). IsCeiling (pos u *ℤ x) den s.hi) en ceiling))
