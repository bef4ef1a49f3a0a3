-- The cell of rank-biased precision encloses the difference in every completion, whatever the tails.
use Rattle.std.proofs.Common.{◌≡◌, ℕ, suc, ◌+◌, ◌-◌, ◌*◌, ◌/◌, ◌^◌, ◌<◌, ◌≤◌, Bool, true, false, nat_eq, nat_lt, List, [], ◌∷◌, ◌++◌, map, length, Option, Some, None, ℤ, pos, ◌+ℤ◌, ◌-ℤ◌, arith, refl, ap, ◌∙◌, sym, subst, inl, inr}
use Rattle.std.specs.Prelude.{if◌then◌else◌}
use Rattle.std.proofs.lemmas.List.{length-map, length-append}
use Rattle.std.proofs.lemmas.List.Elements.{recursion_from_All}
use Rattle.std.specs.List.{IsDistinct, AllByRecursion, range_with_len, sum_by}
use Rattle.std.proofs.Math.Nat.{mul-le-mul_left, mul-le-mul_right, pow-suc, pow-le-pow_left, one-le-pow}
use Rattle.std.proofs.lemmas.Int.{ints}
use Rattle.std.proofs.lemmas.Nat.{pow-add}
use Rattle.std.proofs.lemmas.Bool.{cases_lt}
use Rattle.std.proofs.lemmas.Bool.Decides.{nat_tests}
use Rattle.std.proofs.lemmas.List.Sums.{sum_by-cons}
use borrow.Author.Differences.{up, down, sum_is_lem}
use Rattle.desk_model.specs.Mark.{mark_at}
use Rattle.desk_model.specs.Completion.{Allows, Completes, picked_value, with_picked}
use Rattle.desk_model.specs.Ranking.{IsRanking, rank}
use Rattle.desk_model.specs.Fraction.{IsAtMost}
use Rattle.desk_model.specs.Score.{gained, biased}
use Rattle.desk_model.specs.Verdict.{whole_sum}
use Rattle.desk_model.proofs.Completions.{allowed_least, allowed_most}
use Rattle.desk_model.proofs.Fractions.{at_most_in}
use Rattle.desk_model.proofs.PrecisionEnds.{weaker, over-pos}
use Rattle.measure_laws.specs.Ranks.{comes_before, IsRankWithin}
use Rattle.measure_laws.specs.Powers.{ceil_div, low_power, high_power, low_weight, high_weight}
use Rattle.measure_laws.specs.Shares.{low_share, biased_least_lo}
use Rattle.measure_laws.proofs.Biased.{worth, tail_adds, low_power-le, high_power-le, ceil_div-le, div-mul-le}
use Rattle.measure_laws.proofs.RecallEnds.{every, range_below}
use Rattle.measure_laws.proofs.Ranks.{gained_by_documents, sum_by-agree, rank_within}
use Rattle.desk_model.specs.declared.types.Mark.{Mark}

-- a sum of whole numbers against two sums of naturals
pub sum_bounds : (f : ℕ → ℤ) (g h : ℕ → ℕ) (whole : ℕ) (zs : List ℕ) → AllByRecursion (λ d. up (f d) * whole + h d ≤ g d + down (f d) * whole) zs →
    up (whole_sum (map f zs)) * whole + sum_by h zs ≤ sum_by g zs + down (whole_sum (map f zs)) * whole
sum_bounds f g h whole [] k = omega arith
sum_bounds f g h whole (z ∷ zs) k =
    let parts : (up (f z +ℤ whole_sum (map f zs)) + (down (f z) + down (whole_sum (map f zs)))) * whole ≡ (down (f z +ℤ whole_sum (map f zs)) + (up (f z) + up (whole_sum (map f zs)))) * whole =
    ap (λ s. s * whole) (omega (arith, sum_is_lem (f z) (whole_sum (map f zs)))) in
    omega (arith, k.0, sum_bounds f g h whole zs k.1, parts, sum_by-cons g z zs, sum_by-cons h z zs)

pub sum_by-scale : (s : ℕ) (f : ℕ → ℕ) (zs : List ℕ) → sum_by (λ d. s * f d) zs ≡ s * sum_by f zs
sum_by-scale s f [] = omega arith
sum_by-scale s f (z ∷ zs) = omega (arith, sum_by-cons (λ d. s * f d) z zs, ap (λ n. s * n) (sum_by-cons f z zs), sum_by-scale s f zs)

-- what a rank is worth, and nothing where it is absent
abbrev pub worth_of : ℕ → ℕ → ℕ → Option ℕ → ℕ
worth_of a b m None = 0
worth_of a b m (Some r) = worth a b m r

-- S times the worth of a rank lies between its two weights
pub weight_low : (a c m : ℕ) (x : Option ℕ) → IsRankWithin m x → low_weight a (a + c) x * (a + c) ^ m ≤ 10 ^ 18 * (c * worth_of a (a + c) m x)
weight_low a c m None h = omega arith
weight_low a c m (Some r) h =
    let b = a + c in
    let i = r - 1 in
    let j = m - r in
    let power : low_power a b i * b ^ i ≤ 10 ^ 18 * a ^ i = low_power-le a b i in
    let less : low_power a b i * (b - a) / b * b ≤ low_power a b i * (b - a) = div-mul-le (low_power a b i * (b - a)) b in
    let part : b - a ≡ c = omega arith in
    let whole : b ^ m ≡ b * b ^ i * b ^ j = ap (λ n. b ^ n) (omega arith) ∙ pow-add b (suc i) j ∙ ap (λ s. s * b ^ j) (pow-suc b i ∙ swap (b ^ i) b) in
    weigh (low_power a b i * (b - a) / b) (low_power a b i) (b ^ i) (b ^ j) b c (a ^ i) (b ^ m) (subst (λ (n : ℕ). low_power a b i * (b - a) / b * b ≤ low_power a b i * n) part less) power whole
  where
    swap : (x y : ℕ) → x * y ≡ y * x
    swap x y = omega arith

    weigh : (w p bi bj b c ai bm : ℕ) → w * b ≤ p * c → p * bi ≤ 10 ^ 18 * ai → bm ≡ b * bi * bj → w * bm ≤ 10 ^ 18 * (c * (ai * bj))
    weigh w p bi bj b c ai bm h k e =
        omega (arith, mul-le-mul_right (bi * bj) h, mul-le-mul_right (c * bj) k, ap (λ s. w * s) e)

pub weight_high : (a c m : ℕ) (x : Option ℕ) → 0 < a + c → IsRankWithin m x → 10 ^ 18 * (c * worth_of a (a + c) m x) ≤ high_weight a (a + c) x * (a + c) ^ m
weight_high a c m None p h = omega arith
weight_high a c m (Some r) p h =
    let b = a + c in
    let i = r - 1 in
    let j = m - r in
    let power : 10 ^ 18 * a ^ i ≤ high_power a b i * b ^ i = high_power-le a b i p in
    let more : high_power a b i * (b - a) ≤ ceil_div (high_power a b i * (b - a)) b * b = ceil_div-le (high_power a b i * (b - a)) b p in
    let part : b - a ≡ c = omega arith in
    let whole : b ^ m ≡ b * b ^ i * b ^ j = ap (λ n. b ^ n) (omega arith) ∙ pow-add b (suc i) j ∙ ap (λ s. s * b ^ j) (pow-suc b i ∙ swap (b ^ i) b) in
    weigh (ceil_div (high_power a b i * (b - a)) b) (high_power a b i) (b ^ i) (b ^ j) b c (a ^ i) (b ^ m) (subst (λ (n : ℕ). high_power a b i * n ≤ ceil_div (high_power a b i * (b - a)) b * b) part more) power whole
  where
    swap : (x y : ℕ) → x * y ≡ y * x
    swap x y = omega arith

    weigh : (w p bi bj b c ai bm : ℕ) → p * c ≤ w * b → 10 ^ 18 * ai ≤ p * bi → bm ≡ b * bi * bj → 10 ^ 18 * (c * (ai * bj)) ≤ w * bm
    weigh w p bi bj b c ai bm h k e =
        omega (arith, mul-le-mul_right (bi * bj) h, mul-le-mul_right (c * bj) k, ap (λ s. w * s) e)

-- an earlier rank is worth no less, also out of other numbers of places
pub earlier_worth : (a c m n x e : ℕ) → 1 ≤ x → x ≤ m → x + e ≤ n → worth a (a + c) n (x + e) * (a + c) ^ m ≤ worth a (a + c) m x * (a + c) ^ n
earlier_worth a c m n x e h k l =
    let b = a + c in
    let i = x - 1 in
    let j = m - x in
    let q = n - (x + e) in
    let up_a : a ^ (x + e - 1) ≡ a ^ i * a ^ e = ap (λ s. a ^ s) (omega arith) ∙ pow-add a i e in
    let up_m : b ^ m ≡ b ^ j * b ^ x = ap (λ s. b ^ s) (omega arith) ∙ pow-add b j x in
    let up_n : b ^ n ≡ b ^ q * b ^ x * b ^ e = ap (λ s. b ^ s) (omega arith) ∙ pow-add b (q + x) e ∙ ap (λ s. s * b ^ e) (pow-add b q x) in
    let less : a ^ e ≤ b ^ e = pow-le-pow_left (omega arith) e in
    compare_worths (a ^ (x + e - 1)) (a ^ i) (a ^ e) (b ^ q) (b ^ j) (b ^ x) (b ^ e) (b ^ m) (b ^ n) up_a up_m up_n less
  where
    compare_worths : (ay ax ae bq bj bx be bm bn : ℕ) → ay ≡ ax * ae → bm ≡ bj * bx → bn ≡ bq * bx * be → ae ≤ be → (ay * bq) * bm ≤ (ax * bj) * bn
    compare_worths ay ax ae bq bj bx be bm bn e f g le = rw (e, f, g) (omega (arith, mul-le-mul_left (ax * bq * bj * bx) le))

-- which of two ranks comes first, and what they are worth
pub data Standing (x y : Option ℕ) : Type 0 where
  ahead : comes_before x y ≡ true → comes_before y x ≡ false → Standing x y
  behind : comes_before x y ≡ false → comes_before y x ≡ true → Standing x y
  level : comes_before x y ≡ false → comes_before y x ≡ false → x ≡ y → Standing x y

pub stands : (x y : Option ℕ) → Standing x y
stands None None = level refl refl refl
stands (Some x) None = ahead refl refl
stands None (Some y) = behind refl refl
stands (Some x) (Some y) = elim (cases_lt x y) [
  | inl less ↦ ahead (is_less x y less) (not_less y x (omega arith))
  | inr more ↦ elim (cases_lt y x) [
    | inl less ↦ behind (not_less x y more) (is_less y x less)
    | inr same ↦ let e : x ≡ y = omega arith in level (not_less x y more) (not_less y x same) (ap (λ n. Some n) e)
  ]
]
  where
    is_less : (m n : ℕ) → m < n → nat_lt m n ≡ true
    is_less m n h = grind (arith, nat_tests)

    not_less : (m n : ℕ) → n ≤ m → nat_lt m n ≡ false
    not_less m n h = grind (arith, nat_tests)

-- of two ranks only one comes first
pub one_first : (x y : Option ℕ) → comes_before x y ≡ true → comes_before y x ≡ false
one_first x y h = at (stands x y)
  where
    at : Standing x y → comes_before y x ≡ false
    at (ahead e f) = f
    at (behind e f) = let bad : true ≡ false = sym h ∙ e in absurd (cc)
    at (level e f g) = f

pub before_worth : (a c m n : ℕ) (x y : Option ℕ) → IsRankWithin m x → IsRankWithin n y → comes_before x y ≡ true → worth_of a (a + c) n y * (a + c) ^ m ≤ worth_of a (a + c) m x * (a + c) ^ n
before_worth a c m n None y h k e = absurd (cc)
before_worth a c m n (Some x) None h k e = omega arith
before_worth a c m n (Some x) (Some y) h k e =
    let less : x < y = is_lt x y e in
    let gap : x + (y - x) ≡ y = omega arith in
    subst (λ (z : ℕ). worth a (a + c) n z * (a + c) ^ m ≤ worth a (a + c) m x * (a + c) ^ n) gap (earlier_worth a c m n x (y - x) h.0 h.1 (omega (arith, k)))
  where
    is_lt : (i j : ℕ) → nat_lt i j ≡ true → i < j
    is_lt i j e = grind (arith, nat_tests)

pub level_worth : (a c m n : ℕ) (x : Option ℕ) → IsRankWithin m x → IsRankWithin n x → worth_of a (a + c) n x * (a + c) ^ m ≤ worth_of a (a + c) m x * (a + c) ^ n
level_worth a c m n None h k = omega arith
level_worth a c m n (Some x) h k =
    let same : x + 0 ≡ x = omega arith in
    subst (λ (z : ℕ). worth a (a + c) n z * (a + c) ^ m ≤ worth a (a + c) m x * (a + c) ^ n) same (earlier_worth a c m n x 0 h.0 h.1 (omega (arith, k)))

-- ---- one document
-- v and w are S times what it adds to the two scores where it is true; l and k the two weights, all out of the same whole
-- where it comes first in the first run
share_ahead : (l k whole v w : ℕ) (counted true' : Bool) → l * whole ≤ v → w ≤ k * whole → w ≤ v → (counted ≡ true → true' ≡ true) →
    up (if counted then pos (l - k) else pos 0) * whole + (if true' then w else 0) ≤ (if true' then v else 0) + down (if counted then pos (l - k) else pos 0) * whole
share_ahead l k whole v w true true h i j f = elim (cases_lt l k) [
  | inl less ↦ let none : l - k ≡ 0 = omega arith in omega (arith, ap (λ s. s * whole) none)
  | inr more ↦ let part : (l - k + k) * whole ≡ l * whole = ap (λ s. s * whole) (omega arith) in omega (arith, part)
]
share_ahead l k whole v w true false h i j f = let off : false ≡ true = f refl in absurd (cc)
share_ahead l k whole v w false true h i j f = omega arith
share_ahead l k whole v w false false h i j f = omega arith

-- where it comes first in the second run: it is counted wherever it may be true
share_behind : (l k whole v w : ℕ) (counted true' : Bool) → l * whole ≤ v → w ≤ k * whole → v ≤ w → (true' ≡ true → counted ≡ true) →
    up (if counted then pos l -ℤ pos k else pos 0) * whole + (if true' then w else 0) ≤ (if true' then v else 0) + down (if counted then pos l -ℤ pos k else pos 0) * whole
share_behind l k whole v w true t h i j f =
    let parts : (up (pos l -ℤ pos k) + k) * whole ≡ (down (pos l -ℤ pos k) + l) * whole = ap (λ s. s * whole) (omega (arith, ints)) in
    behind_step t (up (pos l -ℤ pos k)) (down (pos l -ℤ pos k)) l k whole v w h i j parts
  where
    behind_step : (t : Bool) (p n l k whole v w : ℕ) → l * whole ≤ v → w ≤ k * whole → v ≤ w → (p + k) * whole ≡ (n + l) * whole → p * whole + (if t then w else 0) ≤ (if t then v else 0) + n * whole
    behind_step true p n l k whole v w h i j e = omega (arith, e)
    behind_step false p n l k whole v w h i j e = omega (arith, e)
share_behind l k whole v w false true h i j f = let off : false ≡ true = f refl in absurd (cc)
share_behind l k whole v w false false h i j f = omega arith

share_level : (whole v w : ℕ) (counted true' : Bool) → w ≤ v → up (if counted then pos 0 else pos 0) * whole + (if true' then w else 0) ≤ (if true' then v else 0) + down (if counted then pos 0 else pos 0) * whole
share_level whole v w true true h = omega arith
share_level whole v w true false h = omega arith
share_level whole v w false true h = omega arith
share_level whole v w false false h = omega arith

-- the fact of one document, in any standing of its ranks
document_bound : (a c m n : ℕ) (x y : Option ℕ) (mark : Mark) (t : Bool) → 0 < a + c → IsRankWithin m x → IsRankWithin n y → Allows mark t →
    let b = a + c in
    let whole = b ^ m * b ^ n in
    let v = 10 ^ 18 * (c * worth_of a b m x) * b ^ n in
    let w = 10 ^ 18 * (c * worth_of a b n y) * b ^ m in
    let share = if picked_value (comes_before y x) mark then low_share a b x y else pos 0 in
    up share * whole + (if t then w else 0) ≤ (if t then v else 0) + down share * whole
document_bound a c m n x y mark t p h k allowed = at (stands x y)
  where
    low : low_weight a (a + c) x * ((a + c) ^ m * (a + c) ^ n) ≤ 10 ^ 18 * (c * worth_of a (a + c) m x) * (a + c) ^ n
    low = omega (arith, mul-le-mul_right ((a + c) ^ n) (weight_low a c m x h))

    high : 10 ^ 18 * (c * worth_of a (a + c) n y) * (a + c) ^ m ≤ high_weight a (a + c) y * ((a + c) ^ m * (a + c) ^ n)
    high = omega (arith, mul-le-mul_right ((a + c) ^ m) (weight_high a c n y p k))

    scaled : (f g : ℕ) → f ≤ g → 10 ^ 18 * (c * f) ≤ 10 ^ 18 * (c * g)
    scaled f g le = mul-le-mul_left (10 ^ 18) (mul-le-mul_left c le)

    shown : (e : Bool) (f : Bool) → comes_before x y ≡ e → comes_before y x ≡ f →
        (if e then pos (low_weight a (a + c) x - high_weight a (a + c) y) else if f then pos (low_weight a (a + c) x) -ℤ pos (high_weight a (a + c) y) else pos 0) ≡ low_share a (a + c) x y
    shown e f g i =
        sym (ap (λ s. if s then pos (low_weight a (a + c) x - high_weight a (a + c) y) else if comes_before y x then pos (low_weight a (a + c) x) -ℤ pos (high_weight a (a + c) y) else pos 0) g
        ∙ ap (λ s. if e then pos (low_weight a (a + c) x - high_weight a (a + c) y) else if s then pos (low_weight a (a + c) x) -ℤ pos (high_weight a (a + c) y) else pos 0) i)

    counted : Bool
    counted = picked_value (comes_before y x) mark

    family : ℤ → Type 0
    family z = up (if picked_value (comes_before y x) mark then z else pos 0) * ((a + c) ^ m * (a + c) ^ n) + (if t then 10 ^ 18 * (c * worth_of a (a + c) n y) * (a + c) ^ m else 0) ≤
        (if t then 10 ^ 18 * (c * worth_of a (a + c) m x) * (a + c) ^ n else 0) + down (if picked_value (comes_before y x) mark then z else pos 0) * ((a + c) ^ m * (a + c) ^ n)

    level_same : x ≡ y → worth_of a (a + c) n y * (a + c) ^ m ≤ worth_of a (a + c) m x * (a + c) ^ n
    level_same g = subst (λ (z : Option ℕ). worth_of a (a + c) n z * (a + c) ^ m ≤ worth_of a (a + c) m x * (a + c) ^ n) g (level_worth a c m n x h (subst (IsRankWithin n) (sym g) k))

    at : Standing x y → up (if picked_value (comes_before y x) mark then low_share a (a + c) x y else pos 0) * ((a + c) ^ m * (a + c) ^ n) + (if t then 10 ^ 18 * (c * worth_of a (a + c) n y) * (a + c) ^ m else 0) ≤
        (if t then 10 ^ 18 * (c * worth_of a (a + c) m x) * (a + c) ^ n else 0) + down (if picked_value (comes_before y x) mark then low_share a (a + c) x y else pos 0) * ((a + c) ^ m * (a + c) ^ n)
    at (ahead e f) =
        subst family (shown true false e f)
        (share_ahead (low_weight a (a + c) x) (high_weight a (a + c) y) ((a + c) ^ m * (a + c) ^ n) _ _ counted t low high ordered
        (λ is. allowed_least mark t allowed (sym (ap (λ b. picked_value b mark) f) ∙ is)))
      where
        ordered : 10 ^ 18 * (c * worth_of a (a + c) n y) * (a + c) ^ m ≤ 10 ^ 18 * (c * worth_of a (a + c) m x) * (a + c) ^ n
        ordered = omega (arith, scaled _ _ (before_worth a c m n x y h k e))
    at (behind e f) =
        subst family (shown false true e f)
        (share_behind (low_weight a (a + c) x) (high_weight a (a + c) y) ((a + c) ^ m * (a + c) ^ n) _ _ counted t low high
        (omega (arith, scaled _ _ (before_worth a c n m y x k h f)))
        (λ is. ap (λ b. picked_value b mark) f ∙ allowed_most mark t allowed is))
    at (level e f g) =
        subst family (shown false false e f)
        (share_level ((a + c) ^ m * (a + c) ^ n) _ _ counted t (omega (arith, scaled _ _ (level_same g))))

-- ---- the whole topic
pub scaled_term : (s w : ℕ) (t : Bool) → (if t then s * w else 0) ≡ s * (if t then w else 0)
scaled_term s w true = refl
scaled_term s w false = omega arith

-- what the prefix of a run adds, out of the whole, as a sum over documents
pub prefix_sum : (a b c m scale n : ℕ) (truth : ℕ → Bool) (docs : List ℕ) → IsDistinct nat_eq docs → AllByRecursion (λ d. d < n) docs →
    sum_by (λ d. if truth d then 10 ^ 18 * (c * worth_of a b m (rank docs d)) * scale else 0) (range_with_len 0 n) ≡ 10 ^ 18 * c * scale * gained (worth a b m) 1 (map truth docs)
prefix_sum a b c m scale n truth docs dx wx =
    let s = 10 ^ 18 * c * scale in
    sum_by-agree _ (λ d. s * (if truth d then worth_of a b m (rank docs d) else 0)) (range_with_len 0 n)
    (every _ (λ d. ap (λ (v : ℕ). if truth d then v else 0) (reordered c (worth_of a b m (rank docs d)) scale) ∙ scaled_term s (worth_of a b m (rank docs d)) (truth d)) (range_with_len 0 n))
    ∙ sum_by-scale s (λ d. if truth d then worth_of a b m (rank docs d) else 0) (range_with_len 0 n)
    ∙ ap (λ v. s * v) (sym (gained_by_documents (worth_of a b m) refl truth 1 n docs dx wx))
  where
    reordered : (x y z : ℕ) → 10 ^ 18 * (x * y) * z ≡ 10 ^ 18 * x * z * y
    reordered x y z = omega arith

-- the numbers of the whole topic. h is what the second run's tail may hold at most
biased_total : (s t uz dz u d h c da db ga gb na nb ak an bn bk sa sb : ℕ) →
    u * (da * db) + sb ≤ sa + d * (da * db) → sa ≡ s * c * db * ga → sb ≡ s * c * da * gb → c * ga ≤ na → nb + ak ≤ c * gb + an * bk → s * an ≤ h * bn → db ≡ bn * bk →
    uz + (d + h) ≡ dz + u → uz * (da * db) + s * (nb * da) ≤ s * (na * db) + dz * (da * db)
biased_total s t uz dz u d h c da db ga gb na nb ak an bn bk sa sb sums ea eb la lb kept parts ez =
    let first = mul-le-mul_left (s * db) la in
    let second = mul-le-mul_left (s * da) lb in
    let tail = mul-le-mul_right (bk * da) kept in
    let whole : h * (da * db) ≡ h * (da * (bn * bk)) = ap (λ v. h * (da * v)) parts in
    let ends : (uz + (d + h)) * (da * db) ≡ (dz + u) * (da * db) = ap (λ v. v * (da * db)) ez in
    omega (arith, sums, ea, eb, first, second, tail, whole, ends)

pub biased-over : (a c : ℕ) (gains : List Bool) → 0 < a + c → biased a (a + c) gains ≡ record { num = c * gained (worth a (a + c) (length gains)) 1 gains; den = (a + c) ^ length gains }
biased-over a c gains p =
    let part : a + c - a ≡ c = omega arith in
    over-pos ((a + c - a) * gained (worth a (a + c) (length gains)) 1 gains) ((a + c) ^ length gains) (one-le-pow (length gains) (a + c) p)
    ∙ ap (λ v. record { num = v * gained (worth a (a + c) (length gains)) 1 gains; den = (a + c) ^ length gains }) part

-- the lower end is at most S times the difference, whatever is true and whatever the tails
pub biased_low : (a c : ℕ) (marks : List Mark) (first second : List ℕ) → 0 < a → 0 < c → IsRanking (length marks) first → IsRanking (length marks) second →
    (truth : ℕ → Bool) (tail_a tail_b : List Bool) → Completes marks truth →
    IsAtMost (biased_least_lo a (a + c) marks first second) (10 ^ 18) (biased a (a + c) (map truth first ++ tail_a)) (biased a (a + c) (map truth second ++ tail_b))
biased_low a c marks first second pa pc ra rb truth tail_a tail_b done =
    let b = a + c in
    let n = length marks in
    let zs = range_with_len 0 n in
    let na = length first in
    let nb = length second in
    let gains_a = map truth first ++ tail_a in
    let gains_b = map truth second ++ tail_b in
    let m = length gains_a in
    let k = length gains_b in
    let em : m ≡ na + length tail_a = simp (length-append, length-map) refl in
    let ek : k ≡ nb + length tail_b = simp (length-append, length-map) refl in
    let positive : 0 < a + c = omega arith in
    let share = λ (d : ℕ). (if with_picked marks (λ doc. comes_before (rank second doc) (rank first doc)) d then low_share a b (rank first d) (rank second d) else pos 0) in
    let each : AllByRecursion (λ d. up (share d) * (b ^ m * b ^ k) + (if truth d then 10 ^ 18 * (c * worth_of a b k (rank second d)) * b ^ m else 0) ≤ (if truth d then 10 ^ 18 * (c * worth_of a b m (rank first d)) * b ^ k else 0) + down (share d) * (b ^ m * b ^ k)) zs =
    weaker (λ d. d < n) _ (λ d h. document_bound a c m k (rank first d) (rank second d) (mark_at marks d) (truth d) positive (rank_within first m d (omega (arith, em))) (rank_within second k d (omega (arith, ek))) (done d h)) zs (range_below n) in
    let sums = sum_bounds share (λ d. if truth d then 10 ^ 18 * (c * worth_of a b m (rank first d)) * b ^ k else 0) (λ d. if truth d then 10 ^ 18 * (c * worth_of a b k (rank second d)) * b ^ m else 0) (b ^ m * b ^ k) zs each in
    let fa = prefix_sum a b c m (b ^ k) n truth first ra.distinct (recursion_from_All (λ d. d < n) first ra.within) in
    let fb = prefix_sum a b c k (b ^ m) n truth second rb.distinct (recursion_from_All (λ d. d < n) second rb.within) in
    let la : na ≡ length (map truth first) = simp length-map refl in
    let lb : nb ≡ length (map truth second) = simp length-map refl in
    let ta = (tail_adds a c na (length tail_a) m (map truth first) tail_a la refl em).0 in
    let tb = (tail_adds a c nb (length tail_b) k (map truth second) tail_b lb refl ek).1 in
    let parts : b ^ k ≡ b ^ nb * b ^ length tail_b = ap (λ v. b ^ v) ek ∙ pow-add b nb (length tail_b) in
    let total = whole_sum (map share zs) in
    let z = total -ℤ pos (high_power a b nb) in
    let ends : up z + (down total + high_power a b nb) ≡ down z + up total = omega (arith, ints) in
    rw (biased-over a c gains_a positive, biased-over a c gains_b positive)
    (at_most_in z (10 ^ 18) (record { num = c * gained (worth a b m) 1 gains_a; den = b ^ m }) (record { num = c * gained (worth a b k) 1 gains_b; den = b ^ k })
    (biased_total (10 ^ 18) 0 (up z) (down z) (up total) (down total) (high_power a b nb) c (b ^ m) (b ^ k) (gained (worth a b m) 1 (map truth first)) (gained (worth a b k) 1 (map truth second))
    (c * gained (worth a b m) 1 gains_a) (c * gained (worth a b k) 1 gains_b) (a ^ k) (a ^ nb) (b ^ nb) (b ^ length tail_b) _ _ sums fa fb ta tb (high_power-le a b nb positive) parts ends))
