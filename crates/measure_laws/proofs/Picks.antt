-- The first candidate with the smallest difference has a difference no greater than any other.
use Rattle.std.proofs.Common.{◌≡◌, ℕ, ◌+◌, ◌*◌, ◌<◌, ◌≤◌, Bool, true, false, List, [], ◌∷◌, ◌++◌, arith, refl, inl, inr, ap, sym, subst}
use Rattle.std.specs.Prelude.{if◌then◌else◌}
use Rattle.std.specs.List.{AllByRecursion}
use Rattle.std.proofs.Math.Nat.{mul-le-mul_left, mul-le-mul_right, mul-pos, le_of_mul-le-mul_right}
use Rattle.std.proofs.lemmas.Bool.{cases_lt, ltb-true, ltb-false, lt-ltb, le-ltb}
use Rattle.measure_laws.specs.Differences.{ArePositive, IsFirstLeast, IsNoGreater, Scores, is_smaller, first_least}

abbrev pub NoGreater : Scores → Scores → Type 0
NoGreater s t = IsNoGreater s.first s.second t.first t.second

trans_step : (a c d a' c' d' a'' c'' d'' : ℕ) → 0 < d' → a * d' + c' * d ≤ a' * d + c * d' → a' * d'' + c'' * d' ≤ a'' * d' + c' * d'' → a * d'' + c'' * d ≤ a'' * d + c * d''
trans_step a c d a' c' d' a'' c'' d'' h k l =
    let joined : (a * d'' + c'' * d) * d' ≤ (a'' * d + c * d'') * d' = omega (arith, mul-le-mul_left d'' k, mul-le-mul_left d l) in
    le_of_mul-le-mul_right joined h

pub NoGreater-trans : (s t u : Scores) → ArePositive t → NoGreater s t → NoGreater t u → NoGreater s u
NoGreater-trans s t u h k l =
    trans_step (s.first.num * s.second.den) (s.second.num * s.first.den) (s.first.den * s.second.den) (t.first.num * t.second.den) (t.second.num * t.first.den) (t.first.den * t.second.den)
    (u.first.num * u.second.den) (u.second.num * u.first.den) (u.first.den * u.second.den) (mul-pos h.first h.second) k l

pub NoGreater-refl : (s : Scores) → NoGreater s s
NoGreater-refl s = omega arith

-- the better of two candidates
chosen : {X : Type 0} (scores : X → Scores) (best c : X) (b : Bool) → is_smaller (scores c) (scores best) ≡ b →
    NoGreater (scores (if b then c else best)) (scores best) × NoGreater (scores (if b then c else best)) (scores c)
chosen scores best c true e = let less = ltb-true _ _ e in (omega (arith, less), NoGreater-refl (scores c))
chosen scores best c false e = let more = ltb-false _ _ e in (NoGreater-refl (scores best), omega (arith, more))

-- it is no greater than the best so far and than each of the rest
pub first_least-least : {X : Type 0} (scores : X → Scores) → ((x : X) → ArePositive (scores x)) → (best : X) (cs : List X) →
    NoGreater (scores (first_least scores best cs)) (scores best) × AllByRecursion (λ c. NoGreater (scores (first_least scores best cs)) (scores c)) cs
first_least-least scores positive best [] = (NoGreater-refl (scores best), tt)
first_least-least scores positive best (c ∷ cs) =
    let b = is_smaller (scores c) (scores best) in
    let here = chosen scores best c b refl in
    let later = first_least-least scores positive (if b then c else best) cs in
    let winner = scores (first_least scores (if b then c else best) cs) in
    let middle = scores (if b then c else best) in
    (NoGreater-trans winner middle (scores best) (positive (if b then c else best)) later.0 here.0, (NoGreater-trans winner middle (scores c) (positive (if b then c else best)) later.0 here.1, later.1))

either_of : {X : Type 0} (P : X → Type 0) (c best : X) (b : Bool) → P c → P best → P (if b then c else best)
either_of P c best true h k = h
either_of P c best false h k = k

-- what holds of every candidate holds of the chosen one
pub first_least-all : {X : Type 0} (P : X → Type 0) (scores : X → Scores) (best : X) (cs : List X) → P best → AllByRecursion P cs → P (first_least scores best cs)
first_least-all P scores best [] h k = h
first_least-all {X} P scores best (c ∷ cs) h k = first_least-all P scores (if is_smaller (scores c) (scores best) then c else best) cs (either_of P c best (is_smaller (scores c) (scores best)) k.0 h) k.1

-- more candidates go on from the chosen one
pub first_least-append : {X : Type 0} (scores : X → Scores) (best : X) (xs ys : List X) → first_least scores best (xs ++ ys) ≡ first_least scores (first_least scores best xs) ys
first_least-append scores best [] ys = refl
first_least-append scores best (x ∷ xs) ys = first_least-append scores (if is_smaller (scores x) (scores best) then x else best) xs ys

-- ---- it is the first such candidate
lt_of_mul : (m n k : ℕ) → m * k < n * k → m < n
lt_of_mul m n k h = elim (cases_lt m n) [ inl less ↦ less | inr more ↦ absurd (omega (arith, h, mul-le-mul_right k more)) ]

strict_step : (a c d a' c' d' a'' c'' d'' : ℕ) → 0 < d → 0 < d' → 0 < d'' → a * d' + c' * d ≤ a' * d + c * d' → a' * d'' + c'' * d' < a'' * d' + c' * d'' → a * d'' + c'' * d < a'' * d + c * d''
strict_step a c d a' c' d' a'' c'' d'' p q r k l =
    let joined : (a * d'' + c'' * d) * d' < (a'' * d + c * d'') * d' = omega (arith, mul-le-mul_left d'' k, mul-le-mul_left d l, p) in
    lt_of_mul (a * d'' + c'' * d) (a'' * d + c * d'') d' joined

-- no greater than one that is smaller than a third
test_trans : (s t u : Scores) → ArePositive s → ArePositive t → ArePositive u → NoGreater s t → is_smaller t u ≡ true → is_smaller s u ≡ true
test_trans s t u p q r h k =
    lt-ltb _ _
    (strict_step (s.first.num * s.second.den) (s.second.num * s.first.den) (s.first.den * s.second.den) (t.first.num * t.second.den) (t.second.num * t.first.den) (t.first.den * t.second.den)
    (u.first.num * u.second.den) (u.second.num * u.first.den) (u.first.den * u.second.den) (mul-pos p.first p.second) (mul-pos q.first q.second) (mul-pos r.first r.second) h (ltb-true _ _ k))

strict_then : (a c d a' c' d' a'' c'' d'' : ℕ) → 0 < d → 0 < d' → 0 < d'' → a * d' + c' * d < a' * d + c * d' → a' * d'' + c'' * d' ≤ a'' * d' + c' * d'' → a * d'' + c'' * d < a'' * d + c * d''
strict_then a c d a' c' d' a'' c'' d'' p q r k l =
    let joined : (a * d'' + c'' * d) * d' < (a'' * d + c * d'') * d' = omega (arith, mul-le-mul_left d'' k, mul-le-mul_left d l, r) in
    lt_of_mul (a * d'' + c'' * d) (a'' * d + c * d'') d' joined

-- smaller than one that is no greater than a third
smaller_trans : (s t u : Scores) → ArePositive s → ArePositive t → ArePositive u → is_smaller s t ≡ true → NoGreater t u → is_smaller s u ≡ true
smaller_trans s t u p q r h k =
    lt-ltb _ _
    (strict_then (s.first.num * s.second.den) (s.second.num * s.first.den) (s.first.den * s.second.den) (t.first.num * t.second.den) (t.second.num * t.first.den) (t.first.den * t.second.den)
    (u.first.num * u.second.den) (u.second.num * u.first.den) (u.first.den * u.second.den) (mul-pos p.first p.second) (mul-pos q.first q.second) (mul-pos r.first r.second) (ltb-true _ _ h) k)

pub smaller_no_greater : (s t : Scores) → is_smaller s t ≡ true → NoGreater s t
smaller_no_greater s t e = let less = ltb-true _ _ e in omega (arith, less)

pub not_smaller : (s t : Scores) → is_smaller t s ≡ false → NoGreater s t
not_smaller s t e = let more = ltb-false _ _ e in omega (arith, more)

pub no_smaller : (s t : Scores) → NoGreater s t → is_smaller t s ≡ false
no_smaller s t h = le-ltb _ _ (omega (arith, h))

all_no_smaller : {X : Type 0} (scores : X → Scores) (x : X) (cs : List X) → AllByRecursion (λ c. NoGreater (scores x) (scores c)) cs → AllByRecursion (λ c. is_smaller (scores c) (scores x) ≡ false) cs
all_no_smaller scores x [] h = tt
all_no_smaller scores x (c ∷ cs) h = (no_smaller (scores x) (scores c) h.0, all_no_smaller scores x cs h.1)

-- where a candidate stands in a list, with greater ones before it
pub record StandsFirst {X : Type 0} (scores : X → Scores) (candidates : List X) (x : X) : Type 0 where
  pub before : List X
  pub others : List X
  pub stands : candidates ≡ before ++ x ∷ others
  pub greater : AllByRecursion (λ c. is_smaller (scores x) (scores c) ≡ true) before

-- one that stands before a candidate that is no smaller
stands_still : {X : Type 0} (scores : X → Scores) → ((x : X) → ArePositive (scores x)) → (best c w : X) (cs before others : List X) → best ∷ cs ≡ before ++ w ∷ others →
    AllByRecursion (λ x. is_smaller (scores w) (scores x) ≡ true) before → is_smaller (scores c) (scores best) ≡ false → StandsFirst scores (best ∷ c ∷ cs) w
stands_still {X} scores positive best c w cs [] others s g e =
    let same : best ≡ w = cc in record { before = []; others = c ∷ cs; stands = ap (λ (x : X). x ∷ c ∷ cs) same; greater = tt }
stands_still {X} scores positive best c w cs (x ∷ xs) others s g e =
    let head : best ≡ x = cc in
    let rest : cs ≡ xs ++ w ∷ others = cc in
    let here : is_smaller (scores w) (scores best) ≡ true = subst (λ (y : X). is_smaller (scores w) (scores y) ≡ true) (sym head) g.0 in
    record {
      before = best ∷ c ∷ xs;
      others = others;
      stands = ap (λ (ys : List X). best ∷ c ∷ ys) rest;
      greater = (here, (smaller_trans (scores w) (scores best) (scores c) (positive w) (positive best) (positive c) here (ltb-false _ _ e), g.1));
    }

-- one more candidate
stands_more : {X : Type 0} (scores : X → Scores) → ((x : X) → ArePositive (scores x)) → (best c : X) (cs : List X) (b : Bool) → is_smaller (scores c) (scores best) ≡ b →
    StandsFirst scores (c ∷ cs) (first_least scores c cs) → StandsFirst scores (best ∷ cs) (first_least scores best cs) → StandsFirst scores (best ∷ c ∷ cs) (first_least scores (if b then c else best) cs)
stands_more {X} scores positive best c cs true e h k =
    let w = first_least scores c cs in
    record {
      before = best ∷ h.before;
      others = h.others;
      stands = ap (λ (ys : List X). best ∷ ys) h.stands;
      greater = (test_trans (scores w) (scores c) (scores best) (positive w) (positive c) (positive best) (first_least-least scores positive c cs).0 e, h.greater);
    }
stands_more scores positive best c cs false e h k = stands_still scores positive best c (first_least scores best cs) cs k.before k.others k.stands k.greater e

first_stands : {X : Type 0} (scores : X → Scores) → ((x : X) → ArePositive (scores x)) → (best : X) (cs : List X) → StandsFirst scores (best ∷ cs) (first_least scores best cs)
first_stands scores positive best [] = record { before = []; others = []; stands = refl; greater = tt }
first_stands scores positive best (c ∷ cs) =
    stands_more scores positive best c cs (is_smaller (scores c) (scores best)) refl (first_stands scores positive c cs) (first_stands scores positive best cs)

pub first_least-first : {X : Type 0} (scores : X → Scores) → ((x : X) → ArePositive (scores x)) → (best : X) (cs : List X) → IsFirstLeast scores (best ∷ cs) (first_least scores best cs)
first_least-first scores positive best cs =
    let h = first_stands scores positive best cs in
    record {
      before = h.before;
      others = h.others;
      stands = h.stands;
      least = all_no_smaller scores (first_least scores best cs) (best ∷ cs) (first_least-least scores positive best cs);
      greater = h.greater;
    }
