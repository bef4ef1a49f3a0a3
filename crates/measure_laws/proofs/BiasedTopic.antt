-- The ends of rank-biased precision on a topic: their sizes, their widths, and the bounds of one run.
use Rattle.std.proofs.Common.{◌≡◌, ℕ, ◌+◌, ◌-◌, ◌*◌, ◌^◌, ◌<◌, ◌≤◌, min, Bool, true, false, List, [], ◌∷◌, ◌++◌, map, length, Some, ℤ, pos, neg_ℤ, ◌+ℤ◌, ◌-ℤ◌, ◌≤ℤ◌, arith, refl, ap, ◌∙◌, inl, inr}
use Rattle.std.specs.Prelude.{if◌then◌else◌}
use Rattle.std.specs.List.{AllByRecursion, range_with_len, sum_by}
use Rattle.std.proofs.Math.Nat.{mul-le-mul_left, mul-le-mul_right, pow-zero}
use Rattle.std.proofs.lemmas.Int.{ints}
use Rattle.std.proofs.lemmas.Nat.{pow-add}
use Rattle.std.proofs.lemmas.Bool.{cases_lt}
use Rattle.std.proofs.lemmas.List.{length-map, length-append}
use Rattle.std.proofs.lemmas.List.Elements.{recursion_from_All}
use Rattle.std.proofs.lemmas.List.Sums.{sum_by-cons}
use Rattle.desk_model.specs.Mark.{mark_at}
use Rattle.desk_model.specs.Completion.{Completes, with_picked}
use Rattle.desk_model.specs.Ranking.{IsRanking, rank}
use Rattle.desk_model.specs.Fraction.{over, IsAtMost, IsAtLeast}
use Rattle.desk_model.specs.Score.{gained, biased}
use Rattle.desk_model.specs.Verdict.{whole_sum}
use Rattle.desk_model.proofs.Completions.{allowed_least, allowed_most}
use Rattle.desk_model.proofs.Fractions.{at_most_in, at_least_in}
use Rattle.desk_model.proofs.PrecisionEnds.{weaker}
use Rattle.measure_laws.specs.Powers.{low_power, high_power, low_weight, high_weight}
use Rattle.measure_laws.specs.Shares.{low_share, high_share, biased_truth, share_sum, share_sum_of, biased_upper_end, biased_least_lo, biased_least_hi, biased_bound_lo, biased_bound_hi}
use Rattle.measure_laws.proofs.Biased.{worth, gained_most, tail_adds, high_power-le}
use Rattle.measure_laws.proofs.BiasedEnds.{weight_low, weight_high, biased-over}
use Rattle.measure_laws.proofs.BiasedSizes.{powers_apart, rank_size, ShareSizes, share_sizes, low_weights_sum, high_weights_sum, whole_between, weights_by_document}
use Rattle.measure_laws.proofs.RecallEnds.{every}
use Rattle.measure_laws.proofs.Ranks.{rank_within, sum_by-plus}
use Rattle.desk_model.specs.declared.types.Mark.{Mark}

-- ---- all weights of a run
pub low_weights_most : (a b n : ℕ) (docs : List ℕ) → 0 < b → a ≤ b → IsRanking n docs → sum_by (λ d. low_weight a b (rank docs d)) (range_with_len 0 n) + low_power a b (length docs) ≤ 10 ^ 18
unfolding low_power
low_weights_most a b n docs h k r =
    let long : 0 + length (map (λ _. true) docs) ≡ length docs = simp length-map (omega arith) in
    omega (arith, weights_by_document (low_weight a b) refl n docs r, low_weights_sum a b 0 (map (λ _. true) docs) h k, ap (low_power a b) long)

pub high_weights_most : (a b n : ℕ) (docs : List ℕ) → 0 < b → a ≤ b → IsRanking n docs → sum_by (λ d. high_weight a b (rank docs d)) (range_with_len 0 n) + high_power a b (length docs) ≤ 10 ^ 18 + 10000
unfolding high_power
high_weights_most a b n docs h k r =
    let long : 0 + length (map (λ _. true) docs) ≡ length docs = simp length-map (omega arith) in
    let few = r.short in
    omega (arith, weights_by_document (high_weight a b) refl n docs r, high_weights_sum a b 0 (map (λ _. true) docs) h k, ap (high_power a b) long, long)

-- ---- sizes
counted_between : (t : Bool) (z : ℤ) (g h : ℕ) → neg_ℤ (pos h) ≤ℤ z → z ≤ℤ pos g → (neg_ℤ (pos h) ≤ℤ (if t then z else pos 0)) × ((if t then z else pos 0) ≤ℤ pos g)
counted_between true z g h p q = (p, q)
counted_between false z g h p q = (omega (arith, ints), omega (arith, ints))

sizes_at : (a b : ℕ) (first second : List ℕ) (d : ℕ) → 0 < b → a ≤ b → ShareSizes a b (rank first d) (rank second d) (low_share a b (rank first d) (rank second d)) (high_share a b (rank first d) (rank second d))
sizes_at a b first second d h k =
    share_sizes a b (length first) (length second) (rank first d) (rank second d) h k (rank_within first (length first) d (omega arith)) (rank_within second (length second) d (omega arith))

low_end : (t : ℤ) (h wl wh p : ℕ) → (neg_ℤ (pos wh) ≤ℤ t) × (t ≤ℤ pos wl) → wl + p ≤ 10 ^ 18 → wh + h ≤ 10 ^ 18 + 10000 → (neg_ℤ (pos (2 * 10 ^ 18)) ≤ℤ (t -ℤ pos h)) × ((t -ℤ pos h) ≤ℤ pos (2 * 10 ^ 18))
low_end t h wl wh p k i j = (omega (arith, ints, k), omega (arith, ints, k))

high_end : (t : ℤ) (l wl wh p : ℕ) → (neg_ℤ (pos wl) ≤ℤ t) × (t ≤ℤ pos wh) → wl + l ≤ 10 ^ 18 → wh + p ≤ 10 ^ 18 + 10000 → (neg_ℤ (pos (2 * 10 ^ 18)) ≤ℤ (t -ℤ pos (l - 1))) × ((t -ℤ pos (l - 1)) ≤ℤ pos (2 * 10 ^ 18))
high_end t l wl wh p k i j = (omega (arith, ints, k), omega (arith, ints, k))

pub least_lo_modest : (a b : ℕ) (marks : List Mark) (first second : List ℕ) → 0 < b → a ≤ b → IsRanking (length marks) first → IsRanking (length marks) second →
    (neg_ℤ (pos (2 * 10 ^ 18)) ≤ℤ biased_least_lo a b marks first second) × (biased_least_lo a b marks first second ≤ℤ pos (2 * 10 ^ 18))
least_lo_modest a b marks first second h k ra rb =
    let n = length marks in
    let zs = range_with_len 0 n in
    let between = whole_between (λ d. if biased_truth marks first second d then low_share a b (rank first d) (rank second d) else pos 0) (λ d. low_weight a b (rank first d)) (λ d. high_weight a b (rank second d)) zs
    (every _ (λ d. let s = sizes_at a b first second d h k in counted_between (biased_truth marks first second d) (low_share a b (rank first d) (rank second d)) (low_weight a b (rank first d)) (high_weight a b (rank second d)) s.low_least s.low_most) zs) in
    low_end (share_sum (low_share a b) marks first second) (high_power a b (length second)) (sum_by (λ d. low_weight a b (rank first d)) zs) (sum_by (λ d. high_weight a b (rank second d)) zs) (low_power a b (length first)) between (low_weights_most a b n first h k ra) (high_weights_most a b n second h k rb)

-- the upper end of a completion
pub upper_end_modest : (a b n : ℕ) (truth : ℕ → Bool) (first second : List ℕ) → 0 < b → a ≤ b → IsRanking n first → IsRanking n second →
    (neg_ℤ (pos (2 * 10 ^ 18)) ≤ℤ biased_upper_end a b truth n first second) × (biased_upper_end a b truth n first second ≤ℤ pos (2 * 10 ^ 18))
upper_end_modest a b n truth first second h k ra rb =
    let zs = range_with_len 0 n in
    let between = whole_between (λ d. if truth d then high_share a b (rank first d) (rank second d) else pos 0) (λ d. high_weight a b (rank first d)) (λ d. low_weight a b (rank second d)) zs
    (every _ (λ d. let s = sizes_at a b first second d h k in counted_between (truth d) (high_share a b (rank first d) (rank second d)) (high_weight a b (rank first d)) (low_weight a b (rank second d)) s.high_least s.high_most) zs) in
    high_end (share_sum_of truth n (high_share a b) first second) (low_power a b (length second)) (sum_by (λ d. low_weight a b (rank second d)) zs) (sum_by (λ d. high_weight a b (rank first d)) zs) (high_power a b (length first)) between (low_weights_most a b n second h k rb) (high_weights_most a b n first h k ra)

pub least_hi_modest : (a b : ℕ) (marks : List Mark) (first second : List ℕ) → 0 < b → a ≤ b → IsRanking (length marks) first → IsRanking (length marks) second →
    (neg_ℤ (pos (2 * 10 ^ 18)) ≤ℤ biased_least_hi a b marks first second) × (biased_least_hi a b marks first second ≤ℤ pos (2 * 10 ^ 18))
least_hi_modest a b marks first second h k ra rb = upper_end_modest a b (length marks) (biased_truth marks first second) first second h k ra rb

-- ---- widths
whole_width : (f g : ℕ → ℤ) (h : ℕ → ℕ) (zs : List ℕ) → AllByRecursion (λ d. g d ≤ℤ (f d +ℤ pos (h d))) zs → whole_sum (map g zs) ≤ℤ (whole_sum (map f zs) +ℤ pos (sum_by h zs))
whole_width f g h [] k = omega (arith, ints)
whole_width f g h (z ∷ zs) k = let e = sum_by-cons h z zs in omega (arith, ints, k.0, whole_width f g h zs k.1, e)

counted_width : (t : Bool) (z w : ℤ) (h : ℕ) → w ≤ℤ (z +ℤ pos h) → (if t then w else pos 0) ≤ℤ ((if t then z else pos 0) +ℤ pos h)
counted_width true z w h p = p
counted_width false z w h p = omega (arith, ints)

rank_sum : (s : ℕ) (docs : List ℕ) → gained (λ r. 2 * rank_size (Some r)) (s + 1) (map (λ _. true) docs) ≡ length docs * (length docs + 1) + 2 * s * length docs
rank_sum s [] = omega arith
rank_sum s (d ∷ docs) = omega (arith, rank_sum (s + 1) docs)

ranks_by_document : (n : ℕ) (docs : List ℕ) → IsRanking n docs → sum_by (λ d. 2 * rank_size (rank docs d)) (range_with_len 0 n) ≡ length docs * (length docs + 1)
ranks_by_document n docs r = omega (arith, weights_by_document (λ x. 2 * rank_size x) refl n docs r, rank_sum 0 docs)

width_total : (t u : ℤ) (h l s na nb : ℕ) → u ≤ℤ (t +ℤ pos s) → s ≡ na * (na + 1) + nb * (nb + 1) → h ≤ l + 2 * nb → (u -ℤ pos (l - 1)) ≤ℤ ((t -ℤ pos h) +ℤ pos (8 * ((na + nb + 1) * (na + nb + 1))))
width_total t u h l s na nb k e w = omega (arith, ints, k)

pub biased_width : (a b : ℕ) (marks : List Mark) (first second : List ℕ) → 0 < b → a ≤ b → IsRanking (length marks) first → IsRanking (length marks) second →
    let n = length first + length second + 1 in biased_least_hi a b marks first second ≤ℤ (biased_least_lo a b marks first second +ℤ pos (8 * (n * n)))
biased_width a b marks first second h k ra rb =
    let n = length marks in
    let zs = range_with_len 0 n in
    let apart = λ (d : ℕ). 2 * rank_size (rank first d) + 2 * rank_size (rank second d) in
    let wide = whole_width (λ d. if biased_truth marks first second d then low_share a b (rank first d) (rank second d) else pos 0) (λ d. if biased_truth marks first second d then high_share a b (rank first d) (rank second d) else pos 0) apart zs
    (every _ (λ d. counted_width (biased_truth marks first second d) (low_share a b (rank first d) (rank second d)) (high_share a b (rank first d) (rank second d)) (apart d) (sizes_at a b first second d h k).width) zs) in
    let sums : sum_by apart zs ≡ length first * (length first + 1) + length second * (length second + 1) =
    omega (arith, sum_by-plus (λ d. 2 * rank_size (rank first d)) (λ d. 2 * rank_size (rank second d)) zs, ranks_by_document n first ra, ranks_by_document n second rb) in
    width_total (share_sum (low_share a b) marks first second) (share_sum (high_share a b) marks first second) (high_power a b (length second)) (low_power a b (length second)) (sum_by apart zs) (length first) (length second) wide sums (powers_apart a b (length second) h k)

-- ---- the bounds of one run
gained_below : (U V : ℕ → ℕ) (whole : ℕ) (t t' : ℕ → Bool) (s e : ℕ) (docs : List ℕ) → ((r : ℕ) → 1 ≤ r → r < e → U r * whole ≤ V r) → AllByRecursion (λ d. t d ≡ true → t' d ≡ true) docs → 1 ≤ s → s + length docs ≤ e →
    gained U s (map t docs) * whole ≤ gained V s (map t' docs)
gained_below U V whole t t' s e [] each more p h = omega arith
gained_below U V whole t t' s e (d ∷ docs) each more p h =
    omega (arith, step (t d) (t' d) (U s) (V s) (each s p (omega arith)) more.0, gained_below U V whole t t' (s + 1) e docs each more.1 (omega arith) (omega arith))
  where
    step : (x y : Bool) (u v : ℕ) → u * whole ≤ v → (x ≡ true → y ≡ true) → (if x then u else 0) * whole ≤ (if y then v else 0)
    step true true u v k m = k
    step true false u v k m = let off : false ≡ true = m refl in absurd (cc)
    step false y u v k m = omega arith

gained_above : (U V : ℕ → ℕ) (whole : ℕ) (t t' : ℕ → Bool) (s e : ℕ) (docs : List ℕ) → ((r : ℕ) → 1 ≤ r → r < e → V r ≤ U r * whole) → AllByRecursion (λ d. t d ≡ true → t' d ≡ true) docs → 1 ≤ s → s + length docs ≤ e →
    gained V s (map t docs) ≤ gained U s (map t' docs) * whole
gained_above U V whole t t' s e [] each more p h = omega arith
gained_above U V whole t t' s e (d ∷ docs) each more p h =
    omega (arith, step (t d) (t' d) (U s) (V s) (each s p (omega arith)) more.0, gained_above U V whole t t' (s + 1) e docs each more.1 (omega arith) (omega arith))
  where
    step : (x y : Bool) (u v : ℕ) → v ≤ u * whole → (x ≡ true → y ≡ true) → (if x then v else 0) ≤ (if y then u else 0) * whole
    step true true u v k m = k
    step true false u v k m = let off : false ≡ true = m refl in absurd (cc)
    step false y u v k m = omega arith

gained-scale : (k : ℕ) (w : ℕ → ℕ) (s : ℕ) (gains : List Bool) → gained (λ r. k * w r) s gains ≡ k * gained w s gains
gained-scale k w s [] = omega arith
gained-scale k w s (true ∷ gains) = omega (arith, gained-scale k w (s + 1) gains)
gained-scale k w s (false ∷ gains) = omega (arith, gained-scale k w (s + 1) gains)

pub run_low : (a c : ℕ) (marks : List Mark) (docs : List ℕ) → 0 < a → 0 < c → IsRanking (length marks) docs → (truth : ℕ → Bool) (tail : List Bool) → Completes marks truth →
    IsAtMost (pos (biased_bound_lo a (a + c) marks docs)) (10 ^ 18) (biased a (a + c) (map truth docs ++ tail)) (over 0 1)
run_low a c marks docs pa pc r truth tail done =
    let b = a + c in
    let gains = map truth docs ++ tail in
    let m = length gains in
    let em : m ≡ length docs + length tail = simp (length-append, length-map) refl in
    let judged = with_picked marks (λ _. false) in
    let positive : 0 < a + c = omega arith in
    let more = weaker (λ d. d < length marks) (λ d. judged d ≡ true → truth d ≡ true) (λ d h. allowed_least (mark_at marks d) (truth d) (done d h)) docs (recursion_from_All (λ d. d < length marks) docs r.within) in
    let prefix = gained_below (λ rank. low_weight a b (Some rank)) (λ rank. 10 ^ 18 * c * worth a b m rank) (b ^ m) judged truth 1 (1 + m) docs (λ rank h k. omega (arith, weight_low a c m (Some rank) (h, omega arith))) more (omega arith) (omega (arith, em)) in
    let scaled = gained-scale (10 ^ 18 * c) (worth a b m) 1 (map truth docs) in
    let la : length docs ≡ length (map truth docs) = simp length-map refl in
    let tails = mul-le-mul_left (10 ^ 18) (tail_adds a c (length docs) (length tail) m (map truth docs) tail la refl em).0 in
    rw (biased-over a c gains positive)
    (at_most_in (pos (biased_bound_lo a b marks docs)) (10 ^ 18) (record { num = c * gained (worth a b m) 1 gains; den = b ^ m }) (over 0 1) (omega (arith, prefix, scaled, tails)))

smaller_of : (p q v whole : ℕ) → v ≤ p * whole → v ≤ q * whole → v ≤ min p q * whole
smaller_of p q v whole h k = elim (cases_lt p q) [
  | inl less ↦ let e : min p q * whole ≡ p * whole = ap (λ s. s * whole) (omega arith) in omega (arith, e)
  | inr more ↦ let e : min p q * whole ≡ q * whole = ap (λ s. s * whole) (omega arith) in omega (arith, e)
]

run_total : (s n g f h w an am bn bk bm p : ℕ) → n + am ≤ g + an * bk → s * g ≤ f → f ≤ w * bm → s * an ≤ h * bn → bm ≡ bn * bk → s * n ≤ (w + h) * bm
run_total s n g f h w an am bn bk bm p tails scaled prefix kept parts =
    let whole : h * bm ≡ h * (bn * bk) = ap (λ v. h * v) parts in omega (arith, mul-le-mul_left s tails, mul-le-mul_right bk kept, whole, scaled, prefix)

pub run_high : (a c : ℕ) (marks : List Mark) (docs : List ℕ) → 0 < a → 0 < c → IsRanking (length marks) docs → (truth : ℕ → Bool) (tail : List Bool) → Completes marks truth →
    IsAtLeast (pos (biased_bound_hi a (a + c) marks docs)) (10 ^ 18) (biased a (a + c) (map truth docs ++ tail)) (over 0 1)
run_high a c marks docs pa pc r truth tail done =
    let b = a + c in
    let gains = map truth docs ++ tail in
    let m = length gains in
    let em : m ≡ length docs + length tail = simp (length-append, length-map) refl in
    let possible = with_picked marks (λ _. true) in
    let positive : 0 < a + c = omega arith in
    let more = weaker (λ d. d < length marks) (λ d. truth d ≡ true → possible d ≡ true) (λ d h. allowed_most (mark_at marks d) (truth d) (done d h)) docs (recursion_from_All (λ d. d < length marks) docs r.within) in
    let prefix = gained_above (λ rank. high_weight a b (Some rank)) (λ rank. 10 ^ 18 * c * worth a b m rank) (b ^ m) truth possible 1 (1 + m) docs (λ rank h k. omega (arith, weight_high a c m (Some rank) positive (h, omega arith))) more (omega arith) (omega (arith, em)) in
    let scaled = gained-scale (10 ^ 18 * c) (worth a b m) 1 (map truth docs) in
    let la : length docs ≡ length (map truth docs) = simp length-map refl in
    let tails = (tail_adds a c (length docs) (length tail) m (map truth docs) tail la refl em).1 in
    let parts : b ^ m ≡ b ^ length docs * b ^ length tail = ap (λ v. b ^ v) em ∙ pow-add b (length docs) (length tail) in
    let none : m ≡ 0 + m = omega arith in
    let one = gained_most a c m 0 m gains refl none in
    let at_most_one : 10 ^ 18 * (c * gained (worth a b m) 1 gains) ≤ 10 ^ 18 * b ^ m = mul-le-mul_left (10 ^ 18) (omega (arith, one, ap (λ v. v * b ^ m) (pow-zero a))) in
    let weights = gained (λ rank. high_weight a b (Some rank)) 1 (map possible docs) in
    let summed = run_total (10 ^ 18) (c * gained (worth a b m) 1 gains) (c * gained (worth a b m) 1 (map truth docs)) (gained (λ rank. 10 ^ 18 * c * worth a b m rank) 1 (map truth docs)) (high_power a b (length docs)) weights
    (a ^ length docs) (a ^ m) (b ^ length docs) (b ^ length tail) (b ^ m) 0 tails (omega (arith, scaled)) prefix (high_power-le a b (length docs) positive) parts in
    let both = smaller_of (10 ^ 18) (weights + high_power a b (length docs)) (10 ^ 18 * (c * gained (worth a b m) 1 gains)) (b ^ m) at_most_one summed in
    rw (biased-over a c gains positive)
    (at_least_in (pos (biased_bound_hi a b marks docs)) (10 ^ 18) (record { num = c * gained (worth a b m) 1 gains; den = b ^ m }) (over 0 1) (omega (arith, both)))

-- both bounds are at most S
pub bound_lo-most : (a b : ℕ) (marks : List Mark) (docs : List ℕ) → 0 < b → a ≤ b → biased_bound_lo a b marks docs ≤ 10 ^ 18
unfolding low_power
bound_lo-most a b marks docs h k = omega (arith, low_weights_sum a b 0 (map (with_picked marks (λ _. false)) docs) h k)
