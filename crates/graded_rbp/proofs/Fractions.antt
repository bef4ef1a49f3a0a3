-- A fraction that is so many times another, and sums of sums.
use Rattle.std.proofs.Common.{◌≡◌, ℕ, ◌+◌, ◌*◌, ◌<◌, ◌≤◌, List, [], ◌∷◌, map, ℤ, arith, ap, refl, ◌∙◌}
use Rattle.std.proofs.Math.Nat.{mul-le-mul_left, mul-le-mul, le_of_mul-le-mul_left}
use borrow.Author.Differences.{up, down}
use Rattle.desk_model.specs.Fraction.{Fraction, over, plus, total, IsAtMost, IsAtLeast}
use Rattle.desk_model.proofs.Fractions.{at_most_in, at_most_out, at_least_in, at_least_out}

-- a numerator over a denominator
abbrev pub ratio : ℕ → ℕ → Fraction
ratio n d = record { num = n; den = d }

-- the second is k times the first
abbrev pub IsTimes : ℕ → Fraction → Fraction → Type 0
IsTimes k x y = x.num * y.den * k ≡ y.num * x.den

pub times_plus : (k : ℕ) (x y v t : Fraction) → IsTimes k x y → IsTimes k v t → IsTimes k (plus x v) (plus y t)
times_plus k x y v t h g = omega (arith, ap (λ s. s * (v.den * t.den)) h, ap (λ s. s * (x.den * y.den)) g)

pub one_each : (m n : ℕ) → 0 < m → 0 < n → 0 < m * n
one_each m n p q = omega (arith, mul-le-mul p q)

-- multiplied by what the second pair stands out of, and with the two equations put in
exchange_below : (p n u k an ad bn bd xn xd yn yd : ℕ) → xn * ad * k ≡ an * xd → yn * bd * k ≡ bn * yd →
    p * (ad * bd) + u * (bn * ad) ≤ u * (an * bd) + n * (ad * bd) →
    (ad * bd) * (p * (xd * yd) + (k * u) * (yn * xd)) ≤ (ad * bd) * ((k * u) * (xn * yd) + n * (xd * yd))
exchange_below p n u k an ad bn bd xn xd yn yd ea eb h =
    omega (arith, mul-le-mul_left (xd * yd) h, ap (λ s. u * s * (bd * yd)) ea, ap (λ s. u * s * (ad * xd)) eb)

exchange_above : (p n u k an ad bn bd xn xd yn yd : ℕ) → xn * ad * k ≡ an * xd → yn * bd * k ≡ bn * yd →
    u * (an * bd) + n * (ad * bd) ≤ p * (ad * bd) + u * (bn * ad) →
    (ad * bd) * ((k * u) * (xn * yd) + n * (xd * yd)) ≤ (ad * bd) * (p * (xd * yd) + (k * u) * (yn * xd))
exchange_above p n u k an ad bn bd xn xd yn yd ea eb h =
    omega (arith, mul-le-mul_left (xd * yd) h, ap (λ s. u * s * (bd * yd)) ea, ap (λ s. u * s * (ad * xd)) eb)

pub at_most_times : (k u : ℕ) (z : ℤ) (x y v t : Fraction) → 0 < v.den → 0 < t.den → IsTimes k x v → IsTimes k y t → IsAtMost z u v t → IsAtMost z (k * u) x y
at_most_times k u z x y v t pv pt ev et h =
    at_most_in z (k * u) x y (le_of_mul-le-mul_left (exchange_below (up z) (down z) u k v.num v.den t.num t.den x.num x.den y.num y.den ev et (at_most_out z u v t h)) (one_each v.den t.den pv pt))

pub at_least_times : (k u : ℕ) (z : ℤ) (x y v t : Fraction) → 0 < v.den → 0 < t.den → IsTimes k x v → IsTimes k y t → IsAtLeast z u v t → IsAtLeast z (k * u) x y
at_least_times k u z x y v t pv pt ev et h =
    at_least_in z (k * u) x y (le_of_mul-le-mul_left (exchange_above (up z) (down z) u k v.num v.den t.num t.den x.num x.den y.num y.den ev et (at_least_out z u v t h)) (one_each v.den t.den pv pt))

-- ---- sums of sums
same_fraction : (m n d e : ℕ) → m ≡ n → d ≡ e → ratio m d ≡ ratio n e
same_fraction m n d e p q = ap (λ s. ratio s d) p ∙ ap (λ s. ratio n s) q

plus_exchange : (w x y z : Fraction) → plus (plus w x) (plus y z) ≡ plus (plus w y) (plus x z)
plus_exchange w x y z = same_fraction _ _ _ _ (omega arith) (omega arith)

-- the sum of pairwise sums
pub total_plus : {X : Type 0} (f g : X → Fraction) (xs : List X) → total (map (λ x. plus (f x) (g x)) xs) ≡ plus (total (map f xs)) (total (map g xs))
total_plus f g [] = refl
total_plus f g (x ∷ xs) =
    ap (plus (plus (f x) (g x))) (total_plus f g xs) ∙ plus_exchange (f x) (g x) (total (map f xs)) (total (map g xs))

pub total_positive : {X : Type 0} (f : X → Fraction) (xs : List X) → ((x : X) → 0 < (f x).den) → 0 < (total (map f xs)).den
total_positive f [] h = omega arith
total_positive f (x ∷ xs) h = one_each (f x).den (total (map f xs)).den (h x) (total_positive f xs h)

-- sums of nothing but zeros
zeros : {X : Type 0} (xs : List X) → (total (map (λ (x : X). over 0 1) xs)).num ≡ 0
zeros [] = refl
zeros (x ∷ xs) = let rest = zeros xs in omega (arith, rest)

pub times_zeros : {X : Type 0} (k : ℕ) (xs : List X) → IsTimes k (over 0 1) (total (map (λ (x : X). over 0 1) xs))
times_zeros k xs = let none = zeros xs in omega (arith, none)

-- ---- a sum of naturals over a list
abbrev pub added : {X : Type 0} → (X → ℕ) → List X → ℕ
added f [] = 0
added f (x ∷ xs) = f x + added f xs

pub added_plus : {X : Type 0} (f g : X → ℕ) (xs : List X) → added (λ x. f x + g x) xs ≡ added f xs + added g xs
added_plus f g [] = refl
added_plus f g (x ∷ xs) = let rest = added_plus f g xs in omega (arith, rest)

pub added_times : {X : Type 0} (c : ℕ) (f : X → ℕ) (xs : List X) → added (λ x. c * f x) xs ≡ c * added f xs
added_times c f [] = omega arith
added_times c f (x ∷ xs) = let rest = added_times c f xs in omega (arith, rest)

pub added_nothing : {X : Type 0} (xs : List X) → added (λ (x : X). 0) xs ≡ 0
added_nothing [] = refl
added_nothing (x ∷ xs) = let rest = added_nothing xs in omega (arith, rest)

-- fractions of one denominator
pub total_common : {X : Type 0} (f : X → ℕ) (d : ℕ) (xs : List X) →
    (total (map (λ x. ratio (f x) d) xs)).num * d ≡ added f xs * (total (map (λ x. ratio (f x) d) xs)).den
total_common f d [] = omega arith
total_common f d (x ∷ xs) = let rest = total_common f d xs in omega (arith, ap (λ s. d * s) rest)
