-- The floor and the ceiling of a difference of two fractions, as functions.
use Rattle.std.specs.Prelude.{ℕ, ◌*◌, ℤ, pos, neg_ℤ, ◌*ℤ◌, ◌-ℤ◌}
use Rattle.std.specs.Int.{int_div_euclid}
use Rattle.desk_model.specs.Fraction.{Fraction}
use Rattle.topic_counts.specs.declared.span.Span.{Span}

-- the greatest whole number that is at most n over d
abbrev pub floor_of : ℤ → ℕ → ℤ
floor_of n d = int_div_euclid n (pos d)

-- the smallest whole number that is at least n over d
abbrev pub ceiling_of : ℤ → ℕ → ℤ
ceiling_of n d = neg_ℤ (int_div_euclid (neg_ℤ n) (pos d))

-- unit times (x minus y), over the product of the denominators
abbrev pub scaled_difference : ℕ → Fraction → Fraction → ℤ
scaled_difference unit x y = pos unit *ℤ (pos (x.num * y.den) -ℤ pos (y.num * x.den))

-- the floor and the ceiling of unit times (x minus y)
unfoldable pub difference_span : ℕ → Fraction → Fraction → Span
difference_span unit x y = record { lo = floor_of (scaled_difference unit x y) (x.den * y.den); hi = ceiling_of (scaled_difference unit x y) (x.den * y.den) }

-- a span of the negated number
abbrev pub negated : Span → Span
negated s = record { lo = neg_ℤ s.hi; hi = neg_ℤ s.lo }
