-- Sums over ranks: they fall where the ranks are later, and rounded ones enclose the exact one.
use Rattle.std.proofs.Common.{◌≡◌, ℕ, zero, suc, ◌+◌, ◌-◌, ◌*◌, ◌/◌, ◌^◌, ◌<◌, ◌≤◌, Bool, true, false, List, [], ◌∷◌, length, ap, refl, sym, subst, ◌∙◌, arith}
use Rattle.std.specs.List.{AllByRecursion}
use Rattle.std.proofs.Math.Nat.{mul-le-mul_left, mul-le-mul_right, mul-le-mul}
use Rattle.std.proofs.lemmas.Nat.{div_below}
use Rattle.desk_model.specs.Fraction.{Fraction, over, plus, total}
use Rattle.measure_laws.specs.Powers.{ceil_div}
use Rattle.desk_model.specs.Precisions.{true_ranks, precisions, mean_precision}
use Rattle.measure_laws.specs.Parts.{ranked_sum, low_part, high_part, low_out_of, high_out_of}
use Rattle.measure_laws.specs.AverageLaws.{IsNoMore}
use Rattle.measure_laws.proofs.Earliest.{NoLater, NoLater-length}

-- ---- quotients
div_mul_le : (n d : ℕ) → n / d * d ≤ n
div_mul_le n d = omega arith

ceil_mul : (n d : ℕ) → 0 < d → n ≤ ceil_div n d * d
ceil_mul n d h = omega (arith, h)

div_falls : (n r s : ℕ) → r ≤ s → n / suc s ≤ n / suc r
div_falls n r s le =
    let more : n < (n / suc r + 1) * suc r = omega arith in
    let grown : (n / suc r + 1) * suc r ≤ (n / suc r + 1) * suc s = mul-le-mul_left (n / suc r + 1) (omega (arith, le)) in
    omega (arith, div_below n (suc s) (n / suc r + 1) (omega arith) (omega (arith, more, grown)))

ceil_most : (n s c : ℕ) → n ≤ c * suc s → ceil_div n (suc s) ≤ c
ceil_most n s c h = omega (arith, div_below (n + (suc s - 1)) (suc s) (c + 1) (omega arith) (omega (arith, h)))

ceil_falls : (n r s : ℕ) → r ≤ s → ceil_div n (suc s) ≤ ceil_div n (suc r)
ceil_falls n r s le =
    let grown : ceil_div n (suc r) * suc r ≤ ceil_div n (suc r) * suc s = mul-le-mul_left (ceil_div n (suc r)) (omega (arith, le)) in
    ceil_most n s (ceil_div n (suc r)) (omega (arith, ceil_mul n (suc r) (omega arith), grown))

div_rises : (m n b : ℕ) → m ≤ n → m / suc b ≤ n / suc b
div_rises m n b h =
    let more : n < (n / suc b + 1) * suc b = omega arith in
    omega (arith, div_below m (suc b) (suc (n / suc b)) (omega arith) (omega (arith, more, h)))

ceil_rises : (m n b : ℕ) → m ≤ n → ceil_div m (suc b) ≤ ceil_div n (suc b)
ceil_rises m n b h = ceil_most m b (ceil_div n (suc b)) (omega (arith, ceil_mul n (suc b) (omega arith), h))

-- ---- what ranks are worth falls with the rank
abbrev pub Falls : (ℕ → ℕ → ℕ) → Type 0
Falls worth = (j r s : ℕ) → 0 < r → r ≤ s → worth j s ≤ worth j r

pub low_part-falls : Falls low_part
low_part-falls j zero s p le = absurd (omega arith)
low_part-falls j (suc r) zero p le = absurd (omega arith)
low_part-falls j (suc r) (suc s) p le = div_falls (10 ^ 18 * j) r s (omega (arith, le))

pub high_part-falls : Falls high_part
high_part-falls j zero s p le = absurd (omega arith)
high_part-falls j (suc r) zero p le = absurd (omega arith)
high_part-falls j (suc r) (suc s) p le = ceil_falls (10 ^ 18 * j) r s (omega (arith, le))

pub sum_falls : (worth : ℕ → ℕ → ℕ) → Falls worth → (j : ℕ) (rs ss : List ℕ) → NoLater rs ss → ranked_sum worth j ss ≤ ranked_sum worth j rs
sum_falls worth f j [] [] h = omega arith
sum_falls worth f j [] (s ∷ ss) h = absurd h
sum_falls worth f j (r ∷ rs) [] h = absurd h
sum_falls worth f j (r ∷ rs) (s ∷ ss) h = omega (arith, f j r s h.0.0 h.0.1, sum_falls worth f (j + 1) rs ss h.1)

-- ---- the exact sum
abbrev pub ArePositive : List ℕ → Type 0
ArePositive rs = AllByRecursion (λ r. 0 < r) rs

pub ranks_positive : (n : ℕ) (gs : List Bool) → 0 < n → ArePositive (true_ranks n gs)
ranks_positive n [] p = tt
ranks_positive n (true ∷ gs) p = (p, ranks_positive (n + 1) gs (omega arith))
ranks_positive n (false ∷ gs) p = ranks_positive (n + 1) gs (omega arith)

both_positive : (m n : ℕ) → 0 < m → 0 < n → 0 < m * n
both_positive m n p q = omega (arith, mul-le-mul p q)

pub sum-den : (j : ℕ) (rs : List ℕ) → ArePositive rs → 0 < (total (precisions j rs)).den
sum-den j [] h = omega arith
sum-den j (zero ∷ rs) h = absurd (omega (arith, h.0))
sum-den j (suc r ∷ rs) h = both_positive (suc r) (total (precisions (j + 1) rs)).den (omega arith) (sum-den (j + 1) rs h.1)

low_step : (l r s j d n rest : ℕ) → l * r ≤ s * j → rest * d ≤ s * n → (l + rest) * (r * d) ≤ s * (j * d + n * r)
low_step l r s j d n rest h k = omega (arith, mul-le-mul_right d h, mul-le-mul_right r k)

high_step : (l r s j d n rest : ℕ) → s * j ≤ l * r → s * n ≤ rest * d → s * (j * d + n * r) ≤ (l + rest) * (r * d)
high_step l r s j d n rest h k = omega (arith, mul-le-mul_right d h, mul-le-mul_right r k)

pub low_sum_below : (j : ℕ) (rs : List ℕ) → ArePositive rs → ranked_sum low_part j rs * (total (precisions j rs)).den ≤ 10 ^ 18 * (total (precisions j rs)).num
low_sum_below j [] h = omega arith
low_sum_below j (zero ∷ rs) h = absurd (omega (arith, h.0))
low_sum_below j (suc r ∷ rs) h =
    let more = total (precisions (j + 1) rs) in
    low_step (low_part j (suc r)) (suc r) (10 ^ 18) j more.den more.num (ranked_sum low_part (j + 1) rs) (div_mul_le (10 ^ 18 * j) (suc r)) (low_sum_below (j + 1) rs h.1)

pub high_sum_above : (j : ℕ) (rs : List ℕ) → ArePositive rs → 10 ^ 18 * (total (precisions j rs)).num ≤ ranked_sum high_part j rs * (total (precisions j rs)).den
high_sum_above j [] h = omega arith
high_sum_above j (zero ∷ rs) h = absurd (omega (arith, h.0))
high_sum_above j (suc r ∷ rs) h =
    let more = total (precisions (j + 1) rs) in
    high_step (high_part j (suc r)) (suc r) (10 ^ 18) j more.den more.num (ranked_sum high_part (j + 1) rs) (ceil_mul (10 ^ 18 * j) (suc r) (omega arith)) (high_sum_above (j + 1) rs h.1)

-- ---- out of all true documents
pub over_whole : (n d : ℕ) → 0 < d → over n d ≡ record { num = n; den = d }
over_whole n zero p = absurd (omega arith)
over_whole n (suc d) p = refl

over_none : (n d : ℕ) → over n (d * 0) ≡ over n 0
over_none n d = let none : d * 0 ≡ 0 = omega arith in ap (over n) none

whole_low : (a q sum d n s : ℕ) → a * q ≤ sum → sum * d ≤ s * n → a * (d * q) ≤ s * n
whole_low a q sum d n s h k = omega (arith, mul-le-mul_right d h, k)

whole_high : (a q sum d n s : ℕ) → sum ≤ a * q → s * n ≤ sum * d → s * n ≤ a * (d * q)
whole_high a q sum d n s h k = omega (arith, mul-le-mul_right d h, k)

-- the rounded averages of some ranks enclose S times the exact one
pub low_below : (rs : List ℕ) (r : ℕ) → ArePositive rs → low_out_of (ranked_sum low_part 1 rs) r * (mean_precision rs r).den ≤ 10 ^ 18 * (mean_precision rs r).num
low_below rs zero h = omega arith
low_below rs (suc r) h =
    let exact = total (precisions 1 rs) in
    let whole : mean_precision rs (suc r) ≡ record { num = exact.num; den = exact.den * suc r } = over_whole exact.num (exact.den * suc r) (both_positive exact.den (suc r) (sum-den 1 rs h) (omega arith)) in
    let a = ranked_sum low_part 1 rs / suc r in
    subst (λ (x : Fraction). a * x.den ≤ 10 ^ 18 * x.num) (sym whole)
    (whole_low a (suc r) (ranked_sum low_part 1 rs) exact.den exact.num (10 ^ 18) (div_mul_le (ranked_sum low_part 1 rs) (suc r)) (low_sum_below 1 rs h))

pub high_above : (rs : List ℕ) (r : ℕ) → ArePositive rs → 10 ^ 18 * (mean_precision rs r).num ≤ high_out_of (ranked_sum high_part 1 rs) r * (mean_precision rs r).den
high_above rs zero h =
    let exact = total (precisions 1 rs) in
    subst (λ (x : Fraction). 10 ^ 18 * x.num ≤ 0 * x.den) (sym (over_none exact.num exact.den)) (omega arith)
high_above rs (suc r) h =
    let exact = total (precisions 1 rs) in
    let whole : mean_precision rs (suc r) ≡ record { num = exact.num; den = exact.den * suc r } = over_whole exact.num (exact.den * suc r) (both_positive exact.den (suc r) (sum-den 1 rs h) (omega arith)) in
    let a = ceil_div (ranked_sum high_part 1 rs) (suc r) in
    subst (λ (x : Fraction). 10 ^ 18 * x.num ≤ a * x.den) (sym whole)
    (whole_high a (suc r) (ranked_sum high_part 1 rs) exact.den exact.num (10 ^ 18) (ceil_mul (ranked_sum high_part 1 rs) (suc r) (omega arith)) (high_sum_above 1 rs h))

-- ---- the rounded averages lose less than two parts
near_step : (l r s j d n rest k : ℕ) → s * j ≤ (l + 1) * r → s * n ≤ (rest + k) * d → s * (j * d + n * r) ≤ (l + rest + suc k) * (r * d)
near_step l r s j d n rest k h g = omega (arith, mul-le-mul_right d h, mul-le-mul_right r g)

pub low_sum_near : (j : ℕ) (rs : List ℕ) → ArePositive rs → 10 ^ 18 * (total (precisions j rs)).num ≤ (ranked_sum low_part j rs + length rs) * (total (precisions j rs)).den
low_sum_near j [] h = omega arith
low_sum_near j (zero ∷ rs) h = absurd (omega (arith, h.0))
low_sum_near j (suc r ∷ rs) h =
    let more = total (precisions (j + 1) rs) in
    let part : 10 ^ 18 * j ≤ (low_part j (suc r) + 1) * suc r = omega arith in
    near_step (low_part j (suc r)) (suc r) (10 ^ 18) j more.den more.num (ranked_sum low_part (j + 1) rs) (length rs) part (low_sum_near (j + 1) rs h.1)

low_near_step : (a q sum k d n s : ℕ) → sum < (a + 1) * q → k ≤ q → 0 < d → s * n ≤ (sum + k) * d → s * n < (a + 2) * (d * q)
low_near_step a q sum k d n s h few p g =
    let whole : sum + k + 1 ≤ (a + 2) * q = omega (arith, h, few) in
    let times : (sum + k + 1) * d ≤ (a + 2) * q * d = mul-le-mul_right d whole in
    omega (arith, times, g, p)

pub low_near : (rs : List ℕ) (r : ℕ) → ArePositive rs → length rs ≤ r → 10 ^ 18 * (mean_precision rs r).num < (low_out_of (ranked_sum low_part 1 rs) r + 2) * (mean_precision rs r).den
low_near rs zero h few =
    let exact = total (precisions 1 rs) in
    subst (λ (x : Fraction). 10 ^ 18 * x.num < (0 + 2) * x.den) (sym (over_none exact.num exact.den)) (omega arith)
low_near rs (suc r) h few =
    let exact = total (precisions 1 rs) in
    let whole : mean_precision rs (suc r) ≡ record { num = exact.num; den = exact.den * suc r } = over_whole exact.num (exact.den * suc r) (both_positive exact.den (suc r) (sum-den 1 rs h) (omega arith)) in
    let sum = ranked_sum low_part 1 rs in
    let a = sum / suc r in
    let cut : sum < (a + 1) * suc r = omega arith in
    subst (λ (x : Fraction). 10 ^ 18 * x.num < (a + 2) * x.den) (sym whole)
    (low_near_step a (suc r) sum (length rs) exact.den exact.num (10 ^ 18) cut few (sum-den 1 rs h) (low_sum_near 1 rs h))

-- the same from above: each upper part is less than one more than what it rounds
over_step : (l r s j d n rest k : ℕ) → l * r ≤ s * j + r → rest * d ≤ s * n + k * d → (l + rest) * (r * d) ≤ s * (j * d + n * r) + suc k * (r * d)
over_step l r s j d n rest k h g = omega (arith, mul-le-mul_right d h, mul-le-mul_right r g)

ceil_near : (n d : ℕ) → ceil_div n (suc d) * suc d ≤ n + suc d
ceil_near n d = omega (arith, div_mul_le (n + (suc d - 1)) (suc d))

pub high_sum_near : (j : ℕ) (rs : List ℕ) → ArePositive rs → ranked_sum high_part j rs * (total (precisions j rs)).den ≤ 10 ^ 18 * (total (precisions j rs)).num + length rs * (total (precisions j rs)).den
high_sum_near j [] h = omega arith
high_sum_near j (zero ∷ rs) h = absurd (omega (arith, h.0))
high_sum_near j (suc r ∷ rs) h =
    let more = total (precisions (j + 1) rs) in
    over_step (high_part j (suc r)) (suc r) (10 ^ 18) j more.den more.num (ranked_sum high_part (j + 1) rs) (length rs) (ceil_near (10 ^ 18 * j) r) (high_sum_near (j + 1) rs h.1)

high_near_step : (a q sum k d n s : ℕ) → a * q + 1 ≤ sum + q → k ≤ q → 0 < d → sum * d ≤ s * n + k * d → a * (d * q) < s * n + 2 * (d * q)
high_near_step a q sum k d n s h few p g =
    let times : (a * q + 1) * d ≤ (sum + q) * d = mul-le-mul_right d h in
    let fewer : k * d ≤ q * d = mul-le-mul_right d few in
    omega (arith, times, fewer, g, p)

ceil_under : (n d : ℕ) → ceil_div n (suc d) * suc d + 1 ≤ n + suc d
ceil_under n d = omega (arith, div_mul_le (n + (suc d - 1)) (suc d))

pub high_near : (rs : List ℕ) (r : ℕ) → ArePositive rs → length rs ≤ r → high_out_of (ranked_sum high_part 1 rs) r * (mean_precision rs r).den < 10 ^ 18 * (mean_precision rs r).num + 2 * (mean_precision rs r).den
high_near rs zero h few =
    let exact = total (precisions 1 rs) in
    subst (λ (x : Fraction). 0 * x.den < 10 ^ 18 * x.num + 2 * x.den) (sym (over_none exact.num exact.den)) (omega arith)
high_near rs (suc r) h few =
    let exact = total (precisions 1 rs) in
    let whole : mean_precision rs (suc r) ≡ record { num = exact.num; den = exact.den * suc r } = over_whole exact.num (exact.den * suc r) (both_positive exact.den (suc r) (sum-den 1 rs h) (omega arith)) in
    let sum = ranked_sum high_part 1 rs in
    let a = ceil_div sum (suc r) in
    subst (λ (x : Fraction). a * x.den < 10 ^ 18 * x.num + 2 * x.den) (sym whole)
    (high_near_step a (suc r) sum (length rs) exact.den exact.num (10 ^ 18) (ceil_under sum r) few (sum-den 1 rs h) (high_sum_near 1 rs h))

-- ---- scores compared
sum_more : (a b c d A B C D : ℕ) → a * d ≤ c * b → A * D ≤ C * B → (a * B + A * b) * (d * D) ≤ (c * D + C * d) * (b * B)
sum_more a b c d A B C D h k = omega (arith, mul-le-mul_left (B * D) h, mul-le-mul_left (b * d) k)

pub total_falls : (j : ℕ) (rs ss : List ℕ) → NoLater rs ss → IsNoMore (total (precisions j ss)) (total (precisions j rs))
total_falls j [] [] h = omega arith
total_falls j [] (s ∷ ss) h = absurd h
total_falls j (r ∷ rs) [] h = absurd h
total_falls j (zero ∷ rs) (s ∷ ss) h = absurd (omega (arith, h.0.0))
total_falls j (suc r ∷ rs) (zero ∷ ss) h = absurd (omega (arith, h.0.1))
total_falls j (suc r ∷ rs) (suc s ∷ ss) h =
    let x = total (precisions (j + 1) ss) in
    let y = total (precisions (j + 1) rs) in
    sum_more j (suc s) j (suc r) x.num x.den y.num y.den (mul-le-mul_left j h.0.1) (total_falls (j + 1) rs ss h.1)

mean_step : (a b c d p q : ℕ) → a * d ≤ c * b → p ≤ q → a * (d * p) ≤ c * (b * q)
mean_step a b c d p q h k = omega (arith, mul-le-mul h k)

-- earlier ranks out of no more documents have no smaller mean
pub mean_falls : (rs ss : List ℕ) (p q : ℕ) → ArePositive rs → ArePositive ss → NoLater rs ss → length rs ≤ p → p ≤ q → IsNoMore (mean_precision ss q) (mean_precision rs p)
mean_falls rs ss p zero hr hs h few le =
    let x = total (precisions 1 ss) in
    subst (λ (f : Fraction). IsNoMore f (mean_precision rs p)) (sym (over_none x.num x.den)) (omega arith)
mean_falls [] [] zero (suc q) hr hs h few le =
    let whole : mean_precision [] (suc q) ≡ record { num = 0; den = 1 * suc q } = over_whole 0 (1 * suc q) (omega arith) in
    subst (λ (f : Fraction). IsNoMore f (mean_precision [] zero)) (sym whole) (omega arith)
mean_falls [] (s ∷ ss) zero (suc q) hr hs h few le = absurd h
mean_falls (r ∷ rs) ss zero (suc q) hr hs h few le = absurd (omega (arith, few))
mean_falls rs ss (suc p) (suc q) hr hs h few le =
    let x = total (precisions 1 ss) in
    let y = total (precisions 1 rs) in
    let whole_x : mean_precision ss (suc q) ≡ record { num = x.num; den = x.den * suc q } = over_whole x.num (x.den * suc q) (both_positive x.den (suc q) (sum-den 1 ss hs) (omega arith)) in
    let whole_y : mean_precision rs (suc p) ≡ record { num = y.num; den = y.den * suc p } = over_whole y.num (y.den * suc p) (both_positive y.den (suc p) (sum-den 1 rs hr) (omega arith)) in
    subst (λ (f : Fraction). IsNoMore f (mean_precision rs (suc p))) (sym whole_x)
    (subst (λ (g : Fraction). IsNoMore (record { num = x.num; den = x.den * suc q }) g) (sym whole_y)
    (mean_step x.num x.den y.num y.den (suc p) (suc q) (total_falls 1 rs ss h) le))

-- ---- rounded averages compared
none_summed : (worth : ℕ → ℕ → ℕ) (rs : List ℕ) → length rs ≤ 0 → ranked_sum worth 1 rs ≡ 0
none_summed worth [] h = refl
none_summed worth (r ∷ rs) h = absurd (omega (arith, h))

pub low_falls : (rs ss : List ℕ) (p q : ℕ) → NoLater rs ss → length rs ≤ p → p ≤ q → low_out_of (ranked_sum low_part 1 ss) q ≤ low_out_of (ranked_sum low_part 1 rs) p
low_falls rs ss p zero h few le = omega arith
low_falls rs ss zero (suc q) h few le =
    let less : ranked_sum low_part 1 ss ≤ 0 = omega (arith, sum_falls low_part low_part-falls 1 rs ss h, none_summed low_part rs few) in
    let none : ranked_sum low_part 1 ss ≡ 0 = omega (arith, less) in
    let zero_is : ranked_sum low_part 1 ss / suc q ≤ ranked_sum low_part 1 ss = omega (arith, div_mul_le (ranked_sum low_part 1 ss) (suc q)) in
    omega (arith, zero_is, none)
low_falls rs ss (suc p) (suc q) h few le =
    omega (arith, div_rises (ranked_sum low_part 1 ss) (ranked_sum low_part 1 rs) q (sum_falls low_part low_part-falls 1 rs ss h), div_falls (ranked_sum low_part 1 rs) p q (omega (arith, le)))

pub high_falls : (rs ss : List ℕ) (p q : ℕ) → NoLater rs ss → length rs ≤ p → p ≤ q → high_out_of (ranked_sum high_part 1 ss) q ≤ high_out_of (ranked_sum high_part 1 rs) p
high_falls rs ss p zero h few le = omega arith
high_falls rs ss zero (suc q) h few le =
    let less : ranked_sum high_part 1 ss ≤ 0 = omega (arith, sum_falls high_part high_part-falls 1 rs ss h, none_summed high_part rs few) in
    ceil_most (ranked_sum high_part 1 ss) q 0 (omega (arith, less))
high_falls rs ss (suc p) (suc q) h few le =
    omega (arith, ceil_rises (ranked_sum high_part 1 ss) (ranked_sum high_part 1 rs) q (sum_falls high_part high_part-falls 1 rs ss h), ceil_falls (ranked_sum high_part 1 rs) p q (omega (arith, le)))

-- ---- sizes: each upper part is at most S, so the upper average is
abbrev pub AreDeep : ℕ → List ℕ → Type 0
AreDeep j [] = Unit {0}
AreDeep j (r ∷ rs) = (j ≤ r) × (0 < r) × AreDeep (j + 1) rs

pub ranks_deep : (j n : ℕ) (gs : List Bool) → j ≤ n → 0 < n → AreDeep j (true_ranks n gs)
ranks_deep j n [] le p = tt
ranks_deep j n (true ∷ gs) le p = (le, p, ranks_deep (j + 1) (n + 1) gs (omega (arith, le)) (omega arith))
ranks_deep j n (false ∷ gs) le p = ranks_deep j (n + 1) gs (omega (arith, le)) (omega arith)

high_part-most : (j r : ℕ) → j ≤ r → 0 < r → high_part j r ≤ 10 ^ 18
high_part-most j zero le p = absurd (omega (arith, p))
high_part-most j (suc r) le p = ceil_most (10 ^ 18 * j) r (10 ^ 18) (mul-le-mul_left (10 ^ 18) le)

high_sum-most : (j : ℕ) (rs : List ℕ) → AreDeep j rs → ranked_sum high_part j rs ≤ 10 ^ 18 * length rs
high_sum-most j [] h = omega arith
high_sum-most j (r ∷ rs) h = omega (arith, high_part-most j r h.0 h.1, high_sum-most (j + 1) rs h.2)

pub high_out-most : (rs : List ℕ) (r : ℕ) → AreDeep 1 rs → length rs ≤ r → high_out_of (ranked_sum high_part 1 rs) r ≤ 10 ^ 18
high_out-most rs zero h few = omega arith
high_out-most rs (suc r) h few =
    let grown : 10 ^ 18 * length rs ≤ 10 ^ 18 * suc r = mul-le-mul_left (10 ^ 18) few in
    ceil_most (ranked_sum high_part 1 rs) r (10 ^ 18) (omega (arith, high_sum-most 1 rs h, grown))
