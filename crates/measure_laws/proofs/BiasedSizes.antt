-- Sizes and widths for rank-biased precision: how far the rounded powers and weights are apart, and what all weights of a run add up to.
use Rattle.std.proofs.Common.{◌≡◌, ℕ, zero, suc, ◌+◌, ◌-◌, ◌*◌, ◌/◌, ◌<◌, ◌≤◌, Bool, true, false, List, [], ◌∷◌, map, length, Option, Some, None, ℤ, pos, neg_ℤ, ◌+ℤ◌, ◌-ℤ◌, ◌≤ℤ◌, arith, refl, ap, sym, add-one, inl, inr}
use Rattle.std.specs.Prelude.{if◌then◌else◌}
use Rattle.std.specs.List.{AllByRecursion, range_with_len, sum_by}
use Rattle.std.proofs.Math.Nat.{mul-le-mul_left, mul-le-mul_right, le_of_mul-le-mul_right}
use Rattle.std.proofs.lemmas.Int.{ints}
use Rattle.std.proofs.lemmas.Bool.{cases_lt}
use Rattle.std.proofs.lemmas.List.Elements.{recursion_from_All}
use Rattle.std.proofs.lemmas.List.Sums.{sum_by-cons}
use Rattle.desk_model.specs.Ranking.{IsRanking, rank}
use Rattle.desk_model.specs.Score.{gained}
use Rattle.desk_model.specs.Verdict.{whole_sum}
use Rattle.measure_laws.specs.Ranks.{comes_before, IsRankWithin}
use Rattle.measure_laws.specs.Powers.{ceil_div, low_power, high_power, low_weight, high_weight}
use Rattle.measure_laws.specs.Shares.{low_share, high_share}
use Rattle.measure_laws.proofs.BiasedEnds.{Standing, stands, ahead, behind, level}
use Rattle.measure_laws.proofs.Ranks.{gained_by_documents}

-- ---- one step of rounding: p is rounded down, q up
ceil_least : (n d : ℕ) → 0 < d → ceil_div n d * d < n + d
ceil_least n d h = omega (arith, h)

div_more : (n d : ℕ) → 0 < d → n < (n / d + 1) * d
div_more n d h = omega (arith, h)

part_small : (e a b : ℕ) → a ≤ b → e * a ≤ e * b
part_small e a b h = mul-le-mul_left e h

lt_of_times : (m n d : ℕ) → m * d < n * d → m < n
lt_of_times m n d h = elim (cases_lt m n) [ inl less ↦ less | inr more ↦ absurd (omega (arith, mul-le-mul_right d more)) ]

-- two numbers e apart are at most e + 2 apart after a step
round_apart : (p q e a b : ℕ) → 0 < b → a ≤ b → q ≤ p + e → ceil_div (q * a) b ≤ p * a / b + (e + 2)
round_apart p q e a b h k l =
    let up_one = ceil_least (q * a) b h in
    let down_one = div_more (p * a) b h in
    let grown = mul-le-mul_right a l in
    let part = part_small e a b k in
    let joined : ceil_div (q * a) b * b < (p * a / b + (e + 3)) * b = omega (arith, up_one, down_one, grown, part) in
    omega (arith, lt_of_times (ceil_div (q * a) b) (p * a / b + (e + 3)) b joined)

-- the two powers are at most 2 apart for each step
pub powers_apart : (a b i : ℕ) → 0 < b → a ≤ b → high_power a b i ≤ low_power a b i + 2 * i
unfolding low_power high_power
powers_apart a b zero h k = omega arith
powers_apart a b (suc i) h k = omega (arith, round_apart (low_power a b i) (high_power a b i) (2 * i) a b h k (powers_apart a b i h k))

-- the rank, and 0 where there is none
abbrev pub rank_size : Option ℕ → ℕ
rank_size None = 0
rank_size (Some r) = r

pub weights_apart : (a b m : ℕ) (x : Option ℕ) → 0 < b → a ≤ b → IsRankWithin m x → high_weight a b x ≤ low_weight a b x + 2 * rank_size x
weights_apart a b m None h k l = omega arith
weights_apart a b m (Some r) h k l =
    omega (arith, l.0, round_apart (low_power a b (r - 1)) (high_power a b (r - 1)) (2 * (r - 1)) (b - a) b h (omega arith) (powers_apart a b (r - 1) h k))

-- ---- the weights of a run, and what is left after them
cut_in_two : (n a b : ℕ) → 0 < b → a ≤ b → n * (b - a) / b + n * a / b ≤ n
cut_in_two n a b h k =
    let parts : n * (b - a) + n * a ≡ n * b = omega (arith, ap (λ s. n * s) (whole a b k)) in
    let joined : (n * (b - a) / b + n * a / b) * b ≤ n * b = omega (arith, parts) in le_of_mul-le-mul_right joined h
  where
    whole : (a b : ℕ) → a ≤ b → b - a + a ≡ b
    whole a b k = omega arith

cut_in_two_up : (n a b : ℕ) → 0 < b → a ≤ b → ceil_div (n * (b - a)) b + ceil_div (n * a) b ≤ n + 1
cut_in_two_up n a b h k =
    let parts : n * (b - a) + n * a ≡ n * b = omega (arith, ap (λ s. n * s) (whole a b k)) in
    let joined : (ceil_div (n * (b - a)) b + ceil_div (n * a) b) * b < (n + 2) * b = omega (arith, parts, ceil_least (n * (b - a)) b h, ceil_least (n * a) b h) in
    omega (arith, lt_of_times (ceil_div (n * (b - a)) b + ceil_div (n * a) b) (n + 2) b joined)
  where
    whole : (a b : ℕ) → a ≤ b → b - a + a ≡ b
    whole a b k = omega arith

taken_most : (g : Bool) (w : ℕ) → (if g then w else 0) ≤ w
taken_most true w = omega arith
taken_most false w = omega arith

pub low_weights_sum : (a b s : ℕ) (gains : List Bool) → 0 < b → a ≤ b → gained (λ r. low_weight a b (Some r)) (s + 1) gains + low_power a b (s + length gains) ≤ low_power a b s
unfolding low_power
low_weights_sum a b s [] h k = let none : s + 0 ≡ s = omega arith in omega (arith, ap (low_power a b) none)
low_weights_sum a b s (g ∷ gains) h k =
    let here : s + 1 - 1 ≡ s = omega arith in
    let next : s + 1 + length gains ≡ s + suc (length gains) = omega arith in
    omega (arith, low_weights_sum a b (s + 1) gains h k, taken_most g (low_weight a b (Some (s + 1))), ap (λ n. low_power a b n * (b - a) / b) here, ap (low_power a b) (add-one s), cut_in_two (low_power a b s) a b h k, ap (low_power a b) next)

pub high_weights_sum : (a b s : ℕ) (gains : List Bool) → 0 < b → a ≤ b → gained (λ r. high_weight a b (Some r)) (s + 1) gains + high_power a b (s + length gains) ≤ high_power a b s + length gains
unfolding high_power
high_weights_sum a b s [] h k = let none : s + 0 ≡ s = omega arith in omega (arith, ap (high_power a b) none)
high_weights_sum a b s (g ∷ gains) h k =
    let here : s + 1 - 1 ≡ s = omega arith in
    let next : s + 1 + length gains ≡ s + suc (length gains) = omega arith in
    omega (arith, high_weights_sum a b (s + 1) gains h k, taken_most g (high_weight a b (Some (s + 1))), ap (λ n. ceil_div (high_power a b n * (b - a)) b) here, ap (high_power a b) (add-one s), cut_in_two_up (high_power a b s) a b h k, ap (high_power a b) next)

-- ---- sums of whole numbers between sums of naturals
pub whole_between : (f : ℕ → ℤ) (g h : ℕ → ℕ) (zs : List ℕ) → AllByRecursion (λ d. (neg_ℤ (pos (h d)) ≤ℤ f d) × (f d ≤ℤ pos (g d))) zs → (neg_ℤ (pos (sum_by h zs)) ≤ℤ whole_sum (map f zs)) × (whole_sum (map f zs) ≤ℤ pos (sum_by g zs))
whole_between f g h [] k = (omega (arith, ints), omega (arith, ints))
whole_between f g h (z ∷ zs) k =
    let rest = whole_between f g h zs k.1 in
    let eg = sum_by-cons g z zs in
    let eh = sum_by-cons h z zs in (omega (arith, ints, k.0, rest, eh), omega (arith, ints, k.0, rest, eg))

-- the weights by document are those by rank
pub weights_by_document : (W : Option ℕ → ℕ) → W None ≡ 0 → (n : ℕ) (docs : List ℕ) → IsRanking n docs → sum_by (λ d. W (rank docs d)) (range_with_len 0 n) ≡ gained (λ r. W (Some r)) 1 (map (λ _. true) docs)
weights_by_document W none n docs r = sym (gained_by_documents W none (λ _. true) 1 n docs r.distinct (recursion_from_All (λ d. d < n) docs r.within))

-- ---- the shares
-- each end of a share lies between weights, and the two ends are as far apart as the rounding of two weights
pub record ShareSizes (a b : ℕ) (x y : Option ℕ) (low high : ℤ) : Type 0 where
  pub low_least : neg_ℤ (pos (high_weight a b y)) ≤ℤ low
  pub low_most : low ≤ℤ pos (low_weight a b x)
  pub high_least : neg_ℤ (pos (low_weight a b y)) ≤ℤ high
  pub high_most : high ≤ℤ pos (high_weight a b x)
  pub width : high ≤ℤ (low +ℤ pos (2 * rank_size x + 2 * rank_size y))

sizes_ahead : (a b : ℕ) (x y : Option ℕ) (lx hx ly hy s t : ℕ) → lx ≡ low_weight a b x → hx ≡ high_weight a b x → ly ≡ low_weight a b y → hy ≡ high_weight a b y → hx ≤ lx + 2 * rank_size x → hy ≤ ly + 2 * rank_size y → lx ≤ hx → ly ≤ hy →
    ShareSizes a b x y (pos (lx - hy)) (pos hx -ℤ pos ly)
sizes_ahead a b x y lx hx ly hy s t e f g i wx wy kx ky = record { low_least = omega (arith, ints); low_most = omega (arith, ints); high_least = omega (arith, ints); high_most = omega (arith, ints); width = omega (arith, ints) }

sizes_behind : (a b : ℕ) (x y : Option ℕ) (lx hx ly hy s t : ℕ) → lx ≡ low_weight a b x → hx ≡ high_weight a b x → ly ≡ low_weight a b y → hy ≡ high_weight a b y → hx ≤ lx + 2 * rank_size x → hy ≤ ly + 2 * rank_size y → lx ≤ hx → ly ≤ hy →
    ShareSizes a b x y (pos lx -ℤ pos hy) (neg_ℤ (pos (ly - hx)))
sizes_behind a b x y lx hx ly hy s t e f g i wx wy kx ky = record { low_least = omega (arith, ints); low_most = omega (arith, ints); high_least = omega (arith, ints); high_most = omega (arith, ints); width = omega (arith, ints) }

sizes_none : (a b : ℕ) (x y : Option ℕ) → ShareSizes a b x y (pos 0) (pos 0)
sizes_none a b x y = record { low_least = omega (arith, ints); low_most = omega (arith, ints); high_least = omega (arith, ints); high_most = omega (arith, ints); width = omega (arith, ints) }

-- the rounded up is at least the rounded down
round_order : (p q a b : ℕ) → 0 < b → p ≤ q → p * a / b ≤ ceil_div (q * a) b
round_order p q a b h k =
    let grown = mul-le-mul_right a k in
    let up_one : q * a ≤ ceil_div (q * a) b * b = omega (arith, h) in
    let joined : p * a / b * b ≤ ceil_div (q * a) b * b = omega (arith, grown, up_one) in le_of_mul-le-mul_right joined h

powers_order : (a b i : ℕ) → 0 < b → low_power a b i ≤ high_power a b i
unfolding low_power high_power
powers_order a b zero h = omega arith
powers_order a b (suc i) h = round_order (low_power a b i) (high_power a b i) a b h (powers_order a b i h)

pub weights_order : (a b : ℕ) (x : Option ℕ) → 0 < b → low_weight a b x ≤ high_weight a b x
weights_order a b None h = omega arith
weights_order a b (Some r) h = round_order (low_power a b (r - 1)) (high_power a b (r - 1)) (b - a) b h (powers_order a b (r - 1) h)

pub share_sizes : (a b m n : ℕ) (x y : Option ℕ) → 0 < b → a ≤ b → IsRankWithin m x → IsRankWithin n y → ShareSizes a b x y (low_share a b x y) (high_share a b x y)
share_sizes a b m n x y h k wx wy = at (stands x y)
  where
    ends : Bool → Bool → ℤ × ℤ
    ends e f = (if e then pos (low_weight a b x - high_weight a b y) else if f then pos (low_weight a b x) -ℤ pos (high_weight a b y) else pos 0, if e then pos (high_weight a b x) -ℤ pos (low_weight a b y) else if f then neg_ℤ (pos (low_weight a b y - high_weight a b x)) else pos 0)

    shown : (e f : Bool) → comes_before x y ≡ e → comes_before y x ≡ f → ShareSizes a b x y (ends e f).0 (ends e f).1 → ShareSizes a b x y (ends (comes_before x y) (comes_before y x)).0 (ends (comes_before x y) (comes_before y x)).1
    shown e f ee ef s = rw (ee, ef) s

    at : Standing x y → ShareSizes a b x y (low_share a b x y) (high_share a b x y)
    at (ahead e f) = shown true false e f (sizes_ahead a b x y (low_weight a b x) (high_weight a b x) (low_weight a b y) (high_weight a b y) 0 0 refl refl refl refl (weights_apart a b m x h k wx) (weights_apart a b n y h k wy) (weights_order a b x h) (weights_order a b y h))
    at (behind e f) = shown false true e f (sizes_behind a b x y (low_weight a b x) (high_weight a b x) (low_weight a b y) (high_weight a b y) 0 0 refl refl refl refl (weights_apart a b m x h k wx) (weights_apart a b n y h k wy) (weights_order a b x h) (weights_order a b y h))
    at (level e f g) = shown false false e f (sizes_none a b x y)
