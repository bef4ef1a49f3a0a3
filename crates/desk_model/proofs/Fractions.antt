-- Bounds of differences, added over topics whose fractions have different denominators.
use Rattle.std.proofs.Common.{◌≡◌, ℕ, ◌+◌, ◌*◌, ◌<◌, ◌≤◌, List, [], ◌∷◌, length, ℤ, pos, ◌+ℤ◌, ◌-ℤ◌, ◌≤ℤ◌, ◌<ℤ◌, negsuc, arith, ap, refl, sym, subst, ◌∙◌, inl, inr}
use Rattle.std.proofs.Math.Nat.{mul-le-mul_left, mul-le-mul_right, mul-le-mul, le_of_mul-le-mul_left, le_of_mul-le-mul_right, zero-mul}
use Rattle.std.proofs.lemmas.Bool.{cases_lt}
use Rattle.std.proofs.lemmas.Int.{ints}
use borrow.Author.Differences.{up, down, sum_is_lem}
use Rattle.desk_model.specs.Fraction.{Fraction, over, plus, total, mean, IsAtMost, IsAtLeast, IsBelow, IsSame}

-- each denominator is positive
abbrev pub AllPositive : List Fraction → Type 0
AllPositive [] = Unit {0}
AllPositive (x ∷ xs) = (0 < x.den) × AllPositive xs

one_each : (m n : ℕ) → 0 < m → 0 < n → 0 < m * n
one_each m n p q = omega (arith, mul-le-mul p q)

lt_of_mul-lt : (u m n : ℕ) → u * m < u * n → m < n
lt_of_mul-lt u m n h = elim (cases_lt m n) [ inl less ↦ less | inr more ↦ absurd (omega (arith, mul-le-mul_left u more)) ]

times_lt : (k m n : ℕ) → 0 < k → m < n → m * k < n * k
times_lt k m n p h = omega (arith, mul-le-mul_right k h)

positive_parts : (z : ℤ) → pos 0 <ℤ z → (down z ≡ 0) × (1 ≤ up z)
positive_parts (pos n) h = omega (arith, ints)
positive_parts (negsuc n) h = absurd (omega (arith, ints))

not_positive_part : (z : ℤ) → z ≤ℤ pos 0 → up z ≡ 0
not_positive_part (pos n) h = omega (arith, ints)
not_positive_part (negsuc n) h = refl

not_negative_part : (z : ℤ) → pos 0 ≤ℤ z → down z ≡ 0
not_negative_part (pos n) h = omega (arith, ints)
not_negative_part (negsuc n) h = absurd (omega (arith, ints))

-- a number times a difference of naturals
pub times_difference : (u m n : ℕ) → u * up (pos m -ℤ pos n) + u * n ≡ u * down (pos m -ℤ pos n) + u * m
times_difference u m n =
    let plain : up (pos m -ℤ pos n) + n ≡ down (pos m -ℤ pos n) + m = omega (arith, ints) in
    omega (arith, ap (λ s. u * s) plain)

-- `IsAtMost` in naturals
pub at_most_out : (z : ℤ) (u : ℕ) (x y : Fraction) → IsAtMost z u x y → up z * (x.den * y.den) + u * (y.num * x.den) ≤ u * (x.num * y.den) + down z * (x.den * y.den)
at_most_out z u x y h = omega (arith, ints, times_difference u (x.num * y.den) (y.num * x.den))

pub at_most_in : (z : ℤ) (u : ℕ) (x y : Fraction) → up z * (x.den * y.den) + u * (y.num * x.den) ≤ u * (x.num * y.den) + down z * (x.den * y.den) → IsAtMost z u x y
at_most_in z u x y h = omega (arith, ints, times_difference u (x.num * y.den) (y.num * x.den))

-- `IsAtLeast` in naturals
pub at_least_out : (z : ℤ) (u : ℕ) (x y : Fraction) → IsAtLeast z u x y → u * (x.num * y.den) + down z * (x.den * y.den) ≤ up z * (x.den * y.den) + u * (y.num * x.den)
at_least_out z u x y h = omega (arith, ints, times_difference u (x.num * y.den) (y.num * x.den))

pub at_least_in : (z : ℤ) (u : ℕ) (x y : Fraction) → u * (x.num * y.den) + down z * (x.den * y.den) ≤ up z * (x.den * y.den) + u * (y.num * x.den) → IsAtLeast z u x y
at_least_in z u x y h = omega (arith, ints, times_difference u (x.num * y.den) (y.num * x.den))

-- two inequalities over different denominators, added
sum_step : (p n u a b c d P N A B C D : ℕ) →
    p * (b * d) + u * (c * b) ≤ u * (a * d) + n * (b * d) → P * (B * D) + u * (C * B) ≤ u * (A * D) + N * (B * D) →
    (p + P) * ((b * B) * (d * D)) + u * ((c * D + C * d) * (b * B)) ≤ u * ((a * B + A * b) * (d * D)) + (n + N) * ((b * B) * (d * D))
sum_step p n u a b c d P N A B C D h k = omega (arith, mul-le-mul_left (B * D) h, mul-le-mul_left (b * d) k)

-- the same of whole numbers that may be negative
pub at_most_step : (z w : ℤ) (u : ℕ) (x y v t : Fraction) → IsAtMost z u x y → IsAtMost w u v t →
    IsAtMost (z +ℤ w) u (plus x v) (plus y t)
at_most_step z w u x y v t h k =
    let whole = (x.den * v.den) * (y.den * t.den) in
    let sums : (up (z +ℤ w) + (down z + down w)) * whole ≡ (down (z +ℤ w) + (up z + up w)) * whole = ap (λ s. s * whole) (omega (arith, sum_is_lem z w)) in
    let step = sum_step (up z) (down z) u x.num x.den y.num y.den (up w) (down w) v.num v.den t.num t.den (at_most_out z u x y h) (at_most_out w u v t k) in
    at_most_in (z +ℤ w) u _ _ (omega (arith, sums, step))

upper_step : (p n u a b c d P N A B C D : ℕ) →
    u * (a * d) + n * (b * d) ≤ p * (b * d) + u * (c * b) → u * (A * D) + N * (B * D) ≤ P * (B * D) + u * (C * B) →
    u * ((a * B + A * b) * (d * D)) + (n + N) * ((b * B) * (d * D)) ≤ (p + P) * ((b * B) * (d * D)) + u * ((c * D + C * d) * (b * B))
upper_step p n u a b c d P N A B C D h k = omega (arith, mul-le-mul_left (B * D) h, mul-le-mul_left (b * d) k)

pub at_least_step : (z w : ℤ) (u : ℕ) (x y v t : Fraction) → IsAtLeast z u x y → IsAtLeast w u v t →
    IsAtLeast (z +ℤ w) u (plus x v) (plus y t)
at_least_step z w u x y v t h k =
    let whole = (x.den * v.den) * (y.den * t.den) in
    let sums : (up (z +ℤ w) + (down z + down w)) * whole ≡ (down (z +ℤ w) + (up z + up w)) * whole = ap (λ s. s * whole) (omega (arith, sum_is_lem z w)) in
    let step = upper_step (up z) (down z) u x.num x.den y.num y.den (up w) (down w) v.num v.den t.num t.den (at_least_out z u x y h) (at_least_out w u v t k) in
    at_least_in (z +ℤ w) u _ _ (omega (arith, sums, step))

-- a sum of fractions with positive denominators has one
pub total-den : (xs : List Fraction) → AllPositive xs → 0 < (total xs).den
total-den [] h = omega arith
total-den (x ∷ xs) h = one_each x.den (total xs).den h.0 (total-den xs h.1)

-- a positive bound from below makes the first the greater
pub below_from_at_most : (z : ℤ) (u : ℕ) (x y : Fraction) → pos 0 <ℤ z → IsAtMost z u x y → 0 < x.den → 0 < y.den → IsBelow y x
below_from_at_most z u x y above h p q =
    let plain = at_most_out z u x y h in
    let whole : 0 < x.den * y.den = one_each x.den y.den p q in
    let parts : (down z ≡ 0) × (1 ≤ up z) = positive_parts z above in
    let none : down z * (x.den * y.den) ≡ 0 = ap (λ s. s * (x.den * y.den)) parts.0 ∙ zero-mul (x.den * y.den) in
    let some : 1 * (x.den * y.den) ≤ up z * (x.den * y.den) = mul-le-mul_right (x.den * y.den) parts.1 in
    let strict : u * (y.num * x.den) < u * (x.num * y.den) = omega (arith, plain, whole, none, some) in
    lt_of_mul-lt u (y.num * x.den) (x.num * y.den) strict

-- a bound from above that is not positive makes the first no greater
pub not_below_from_at_least : (z : ℤ) (u : ℕ) (x y : Fraction) → z ≤ℤ pos 0 → 0 < u → IsAtLeast z u x y → IsBelow y x → ⊥
not_below_from_at_least z u x y below unit h less =
    let plain = at_least_out z u x y h in
    let parts : up z ≡ 0 = not_positive_part z below in
    let none : up z * (x.den * y.den) ≡ 0 = ap (λ s. s * (x.den * y.den)) parts ∙ zero-mul (x.den * y.den) in
    let more : u * (y.num * x.den) < u * (x.num * y.den) = omega (arith, mul-le-mul_left u less, unit) in
    omega (arith, plain, none, more)

-- the means stand as the sums do
pub mean_below : (xs ys : List Fraction) → length xs ≡ length ys → 0 < length xs → IsBelow (total xs) (total ys) → IsBelow (mean xs) (mean ys)
mean_below xs ys same some h =
    let longer : (total xs).num * (total ys).den * length xs < (total ys).num * (total xs).den * length xs = times_lt (length xs) ((total xs).num * (total ys).den) ((total ys).num * (total xs).den) some h in
    subst (λ (n : ℕ). (total xs).num * ((total ys).den * n) < (total ys).num * ((total xs).den * length xs)) same (omega (arith, longer))

pub mean_below_out : (xs ys : List Fraction) → length xs ≡ length ys → IsBelow (mean xs) (mean ys) → IsBelow (total xs) (total ys)
mean_below_out xs ys same h =
    let plain : (total xs).num * ((total ys).den * length xs) < (total ys).num * ((total xs).den * length xs) = subst (λ (n : ℕ). (total xs).num * ((total ys).den * n) < (total ys).num * ((total xs).den * length xs)) (sym same) h in
    lt_of_mul-lt (length xs) ((total xs).num * (total ys).den) ((total ys).num * (total xs).den) (omega (arith, plain))

negative_parts : (z : ℤ) → z <ℤ pos 0 → (up z ≡ 0) × (1 ≤ down z)
negative_parts (pos n) h = absurd (omega (arith, ints))
negative_parts (negsuc n) h = omega (arith, ints)

-- a negative bound from above makes the first the smaller
pub below_from_at_least : (z : ℤ) (u : ℕ) (x y : Fraction) → z <ℤ pos 0 → IsAtLeast z u x y → 0 < x.den → 0 < y.den → IsBelow x y
below_from_at_least z u x y below h p q =
    let plain = at_least_out z u x y h in
    let whole : 0 < x.den * y.den = one_each x.den y.den p q in
    let parts : (up z ≡ 0) × (1 ≤ down z) = negative_parts z below in
    let none : up z * (x.den * y.den) ≡ 0 = ap (λ s. s * (x.den * y.den)) parts.0 ∙ zero-mul (x.den * y.den) in
    let some : 1 * (x.den * y.den) ≤ down z * (x.den * y.den) = mul-le-mul_right (x.den * y.den) parts.1 in
    let strict : u * (x.num * y.den) < u * (y.num * x.den) = omega (arith, plain, whole, none, some) in
    lt_of_mul-lt u (x.num * y.den) (y.num * x.den) strict

eq_of_mul-eq : (u m n : ℕ) → 0 < u → u * m ≡ u * n → m ≡ n
eq_of_mul-eq u m n h e =
    let first : m ≤ n = le_of_mul-le-mul_left (omega (arith, e)) h in
    let second : n ≤ m = le_of_mul-le-mul_left (omega (arith, e)) h in
    omega (arith, first, second)

-- bounds from both sides of 0 make the two one number
pub same_from_bounds : (z w : ℤ) (u : ℕ) (x y : Fraction) → 0 < u → pos 0 ≤ℤ z → w ≤ℤ pos 0 → IsAtMost z u x y → IsAtLeast w u x y → IsSame x y
same_from_bounds z w u x y unit low high h k =
    let below : down z * (x.den * y.den) ≡ 0 = ap (λ s. s * (x.den * y.den)) (not_negative_part z low) ∙ zero-mul (x.den * y.den) in
    let above : up w * (x.den * y.den) ≡ 0 = ap (λ s. s * (x.den * y.den)) (not_positive_part w high) ∙ zero-mul (x.den * y.den) in
    let no_less : u * (y.num * x.den) ≤ u * (x.num * y.den) = omega (arith, at_most_out z u x y h, below) in
    let no_more : u * (x.num * y.den) ≤ u * (y.num * x.den) = omega (arith, at_least_out w u x y k, above) in
    eq_of_mul-eq u (x.num * y.den) (y.num * x.den) unit (omega (arith, no_less, no_more))

-- a whole number at most the difference of one number and itself
pub not_positive_from_same : (z : ℤ) (u : ℕ) (x y : Fraction) → 0 < x.den → 0 < y.den → IsSame x y → IsAtMost z u x y → z ≤ℤ pos 0
not_positive_from_same z u x y p q e h =
    let whole : 0 < x.den * y.den = one_each x.den y.den p q in
    let even : u * (x.num * y.den) ≡ u * (y.num * x.den) = ap (λ s. u * s) e in
    let plain : up z * (x.den * y.den) ≤ down z * (x.den * y.den) = omega (arith, at_most_out z u x y h, even) in
    let parts : up z ≤ down z = le_of_mul-le-mul_right plain whole in
    omega (arith, ints, parts)

-- a whole number at least that difference
pub not_negative_from_same : (z : ℤ) (u : ℕ) (x y : Fraction) → 0 < x.den → 0 < y.den → IsSame x y → IsAtLeast z u x y → pos 0 ≤ℤ z
not_negative_from_same z u x y p q e h =
    let whole : 0 < x.den * y.den = one_each x.den y.den p q in
    let even : u * (x.num * y.den) ≡ u * (y.num * x.den) = ap (λ s. u * s) e in
    let plain : down z * (x.den * y.den) ≤ up z * (x.den * y.den) = omega (arith, at_least_out z u x y h, even) in
    let parts : down z ≤ up z = le_of_mul-le-mul_right plain whole in
    omega (arith, ints, parts)

pub mean_same : (xs ys : List Fraction) → length xs ≡ length ys → IsSame (total xs) (total ys) → IsSame (mean xs) (mean ys)
mean_same xs ys same h =
    let longer : ((total xs).num * (total ys).den) * length xs ≡ ((total ys).num * (total xs).den) * length xs = ap (λ s. s * length xs) h in
    subst (λ (n : ℕ). (total xs).num * ((total ys).den * n) ≡ (total ys).num * ((total xs).den * length xs)) same (omega (arith, longer))

pub mean_same_out : (xs ys : List Fraction) → length xs ≡ length ys → 0 < length xs → IsSame (mean xs) (mean ys) → IsSame (total xs) (total ys)
mean_same_out xs ys same some h =
    let plain : (total xs).num * ((total ys).den * length xs) ≡ (total ys).num * ((total xs).den * length xs) = subst (λ (n : ℕ). (total xs).num * ((total ys).den * n) ≡ (total ys).num * ((total xs).den * length xs)) (sym same) h in
    eq_of_mul-eq (length xs) ((total xs).num * (total ys).den) ((total ys).num * (total xs).den) some (omega (arith, plain))

-- both denominators multiplied by the number of topics
spread_below : (p n u a b c d t : ℕ) → p * (b * d) + u * (c * b) ≤ u * (a * d) + n * (b * d) →
    p * ((b * t) * (d * t)) + (u * t) * (c * (b * t)) ≤ (u * t) * (a * (d * t)) + n * ((b * t) * (d * t))
spread_below p n u a b c d t h = omega (arith, mul-le-mul_left (t * t) h)

spread_above : (p n u a b c d t : ℕ) → u * (a * d) + n * (b * d) ≤ p * (b * d) + u * (c * b) →
    (u * t) * (a * (d * t)) + n * ((b * t) * (d * t)) ≤ p * ((b * t) * (d * t)) + (u * t) * (c * (b * t))
spread_above p n u a b c d t h = omega (arith, mul-le-mul_left (t * t) h)

-- what is at most unit times a difference of sums is at most unit times the number of them times the difference of means
pub at_most_mean : (z : ℤ) (u t : ℕ) (xs ys : List Fraction) → length xs ≡ t → length ys ≡ t → IsAtMost z u (total xs) (total ys) → IsAtMost z (u * t) (mean xs) (mean ys)
at_most_mean z u t xs ys ex ey h =
    rw (ex, ey) (at_most_in z (u * t) (record { num = (total xs).num; den = (total xs).den * t }) (record { num = (total ys).num; den = (total ys).den * t })
    (spread_below (up z) (down z) u (total xs).num (total xs).den (total ys).num (total ys).den t (at_most_out z u (total xs) (total ys) h)))

pub at_least_mean : (z : ℤ) (u t : ℕ) (xs ys : List Fraction) → length xs ≡ t → length ys ≡ t → IsAtLeast z u (total xs) (total ys) → IsAtLeast z (u * t) (mean xs) (mean ys)
at_least_mean z u t xs ys ex ey h =
    rw (ex, ey) (at_least_in z (u * t) (record { num = (total xs).num; den = (total xs).den * t }) (record { num = (total ys).num; den = (total ys).den * t })
    (spread_above (up z) (down z) u (total xs).num (total xs).den (total ys).num (total ys).den t (at_least_out z u (total xs) (total ys) h)))

one_spread_below : (p n u a b t : ℕ) → p * (b * 1) + u * (0 * b) ≤ u * (a * 1) + n * (b * 1) →
    p * ((b * t) * 1) + (u * t) * (0 * (b * t)) ≤ (u * t) * (a * 1) + n * ((b * t) * 1)
one_spread_below p n u a b t h = omega (arith, mul-le-mul_left t h)

one_spread_above : (p n u a b t : ℕ) → u * (a * 1) + n * (b * 1) ≤ p * (b * 1) + u * (0 * b) →
    (u * t) * (a * 1) + n * ((b * t) * 1) ≤ p * ((b * t) * 1) + (u * t) * (0 * (b * t))
one_spread_above p n u a b t h = omega (arith, mul-le-mul_left t h)

-- the same of one sum and its mean
pub at_most_one_mean : (z : ℤ) (u t : ℕ) (xs : List Fraction) → length xs ≡ t → IsAtMost z u (total xs) (over 0 1) → IsAtMost z (u * t) (mean xs) (over 0 1)
at_most_one_mean z u t xs ex h =
    rw ex (at_most_in z (u * t) (record { num = (total xs).num; den = (total xs).den * t }) (over 0 1)
    (one_spread_below (up z) (down z) u (total xs).num (total xs).den t (at_most_out z u (total xs) (over 0 1) h)))

pub at_least_one_mean : (z : ℤ) (u t : ℕ) (xs : List Fraction) → length xs ≡ t → IsAtLeast z u (total xs) (over 0 1) → IsAtLeast z (u * t) (mean xs) (over 0 1)
at_least_one_mean z u t xs ex h =
    rw ex (at_least_in z (u * t) (record { num = (total xs).num; den = (total xs).den * t }) (over 0 1)
    (one_spread_above (up z) (down z) u (total xs).num (total xs).den t (at_least_out z u (total xs) (over 0 1) h)))

-- a bound from below that is not negative makes the first no smaller
pub not_below_from_at_most : (z : ℤ) (u : ℕ) (x y : Fraction) → pos 0 ≤ℤ z → 0 < u → IsAtMost z u x y → IsBelow x y → ⊥
not_below_from_at_most z u x y high unit h less =
    let plain = at_most_out z u x y h in
    let none : down z * (x.den * y.den) ≡ 0 = ap (λ s. s * (x.den * y.den)) (not_negative_part z high) ∙ zero-mul (x.den * y.den) in
    let more : u * (x.num * y.den) < u * (y.num * x.den) = omega (arith, mul-le-mul_left u less, unit) in
    omega (arith, plain, none, more)
