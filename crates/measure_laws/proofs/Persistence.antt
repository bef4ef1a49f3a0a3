-- The ends of rank-biased precision, for each persistence that a measure can have.
use Rattle.std.proofs.Common.{◌≡◌, ℕ, ◌+◌, ◌-◌, ◌*◌, ◌^◌, ◌<◌, ◌≤◌, Bool, List, [], ◌++◌, map, length, Some, ℤ, pos, neg_ℤ, ◌≤ℤ◌, arith, ap, sym, subst, ◌∙◌}
use Rattle.std.proofs.Math.Nat.{pow-zero}
use Rattle.std.proofs.lemmas.Int.{ints}
use Rattle.desk_model.specs.Ranking.{rank}
use Rattle.desk_model.specs.Completion.{Completes}
use Rattle.desk_model.specs.Fraction.{IsAtMost, IsAtLeast, over}
use Rattle.desk_model.specs.Score.{biased, score}
use Rattle.desk_model.specs.Extremes.{InEvery, InEveryScore, IsAtMostScore, IsAtLeastScore, Ends}
use Rattle.desk_model.specs.declared.types.Mark.{Mark}
use Rattle.desk_model.specs.declared.types.MeasureName.TheVariants.{Biased}
use Rattle.desk_model.proofs.Completions.{with_picked-Completes}
use Rattle.desk_model.proofs.Exact.{at_most_least}
use Rattle.desk_model.proofs.Topics.{score-den}
use Rattle.measure_laws.specs.Ranks.{comes_before}
use Rattle.desk_model.specs.MeasureText.{IsPersistence}
use Rattle.measure_laws.specs.Powers.{low_weight, high_weight}
use Rattle.measure_laws.specs.Shares.{ForPersistence, ForRun, AreNear, IsModest, biased_truth, biased_least_lo, biased_least_hi, biased_ends, biased_bound_lo, biased_bound_hi}
use Rattle.measure_laws.specs.Cases.{HasLeastTails}
use Rattle.small_lemmas.proofs.Numbers.{neg_twice}
use Rattle.measure_laws.proofs.Swapping.{every_swapped}
use Rattle.measure_laws.proofs.Weights.{persistence-small}
use Rattle.measure_laws.proofs.Biased.{least_tails, little_left}
use Rattle.measure_laws.proofs.BiasedEnds.{weight_low, weight_high, biased_low}
use Rattle.measure_laws.proofs.BiasedUpper.{biased_high}
use Rattle.measure_laws.proofs.BiasedTopic.{least_lo_modest, least_hi_modest, biased_width, run_low, run_high, bound_lo-most}

-- the bottom is the top and what is between them
parts : (top bottom : ℕ) → top < bottom → top + (bottom - top) ≡ bottom
parts top bottom h = omega arith

pub least_encloses : ForPersistence (λ top bottom marks a b. InEvery (Biased top bottom) marks a b (IsAtMost (biased_least_lo top bottom marks a b) (10 ^ 18)))
least_encloses top bottom marks a b p ra rb truth tail_a tail_b c =
    subst (λ (n : ℕ). IsAtMost (biased_least_lo top n marks a b) (10 ^ 18) (biased top n (map truth a ++ tail_a)) (biased top n (map truth b ++ tail_b))) (parts top bottom p.below_one)
    (biased_low top (bottom - top) marks a b p.positive (omega (arith, p.below_one)) ra rb truth tail_a tail_b c)

pub most_encloses : ForPersistence (λ top bottom marks a b. InEvery (Biased top bottom) marks a b (IsAtLeast (neg_ℤ (biased_least_lo top bottom marks b a)) (10 ^ 18)))
most_encloses top bottom marks a b p ra rb = every_swapped (Biased top bottom) (10 ^ 18) marks a b (biased_least_lo top bottom marks b a) (least_encloses top bottom marks b a p rb ra)

-- the difference of the least case, with its tails, is at most the upper end
pub least_case_below : ForPersistence (λ top bottom marks a b. (tail_a tail_b : List Bool) → HasLeastTails (Biased top bottom) tail_a tail_b →
    IsAtLeast (biased_least_hi top bottom marks a b) (10 ^ 18) (biased top bottom (map (biased_truth marks a b) a ++ tail_a)) (biased top bottom (map (biased_truth marks a b) b ++ tail_b)))
least_case_below top bottom marks a b p ra rb tail_a tail_b tails =
    let truth = biased_truth marks a b in
    let apart : 0 < bottom - top = omega (arith, p.below_one) in
    let few : top + (bottom - top) ≤ 1000000 = omega (arith, p.below_one, persistence-small top bottom p) in
    let high : IsAtLeast (biased_least_hi top bottom marks a b) (10 ^ 18) (biased top bottom (map truth a ++ [])) (biased top bottom (map truth b ++ tail_b)) =
    subst (λ (n : ℕ). IsAtLeast (biased_least_hi top n marks a b) (10 ^ 18) (biased top n (map truth a ++ [])) (biased top n (map truth b ++ tail_b))) (parts top bottom p.below_one)
    (biased_high top (bottom - top) (length marks) truth a b p.positive apart few ra rb tail_b tails.1) in
    subst (λ (t : List Bool). IsAtLeast (biased_least_hi top bottom marks a b) (10 ^ 18) (biased top bottom (map truth a ++ t)) (biased top bottom (map truth b ++ tail_b))) (sym tails.0) high

-- the least case is a completion
pub biased-Completes : (marks : List Mark) (a b : List ℕ) → Completes marks (biased_truth marks a b)
biased-Completes marks a b = with_picked-Completes marks (λ doc. comes_before (rank b doc) (rank a doc))

pub run_low_encloses : ForRun (λ top bottom marks a. InEveryScore (Biased top bottom) marks a (IsAtMostScore (pos (biased_bound_lo top bottom marks a)) (10 ^ 18)))
run_low_encloses top bottom marks a p ra truth tail c =
    subst (λ (n : ℕ). IsAtMost (pos (biased_bound_lo top n marks a)) (10 ^ 18) (biased top n (map truth a ++ tail)) (over 0 1)) (parts top bottom p.below_one)
    (run_low top (bottom - top) marks a p.positive (omega (arith, p.below_one)) ra truth tail c)

pub run_high_encloses : ForRun (λ top bottom marks a. InEveryScore (Biased top bottom) marks a (IsAtLeastScore (pos (biased_bound_hi top bottom marks a)) (10 ^ 18)))
run_high_encloses top bottom marks a p ra truth tail c =
    subst (λ (n : ℕ). IsAtLeast (pos (biased_bound_hi top n marks a)) (10 ^ 18) (biased top n (map truth a ++ tail)) (over 0 1)) (parts top bottom p.below_one)
    (run_high top (bottom - top) marks a p.positive (omega (arith, p.below_one)) ra truth tail c)

pub ends_near : ForPersistence (λ top bottom marks a b. AreNear a b (biased_least_lo top bottom marks a b) (biased_least_hi top bottom marks a b))
ends_near top bottom marks a b p ra rb = biased_width top bottom marks a b (omega (arith, p.below_one)) (omega (arith, p.below_one)) ra rb

pub lo_modest : ForPersistence (λ top bottom marks a b. IsModest (biased_least_lo top bottom marks a b))
lo_modest top bottom marks a b p ra rb = least_lo_modest top bottom marks a b (omega (arith, p.below_one)) (omega (arith, p.below_one)) ra rb

pub hi_modest : ForPersistence (λ top bottom marks a b. IsModest (biased_least_hi top bottom marks a b))
hi_modest top bottom marks a b p ra rb = least_hi_modest top bottom marks a b (omega (arith, p.below_one)) (omega (arith, p.below_one)) ra rb

-- the two ends of the least difference are in order: that of the least case lies between them
pub ends_in_order : ForPersistence (λ top bottom marks a b. biased_least_lo top bottom marks a b ≤ℤ biased_least_hi top bottom marks a b)
ends_in_order top bottom marks a b p ra rb =
    let truth = biased_truth marks a b in
    let tails = least_tails (Biased top bottom) in
    let n = length marks in
    at_most_least _ _ (10 ^ 18) (score (Biased top bottom) n truth a tails.0) (score (Biased top bottom) n truth b tails.1) (score-den (Biased top bottom) n truth a tails.0) (score-den (Biased top bottom) n truth b tails.1)
    (least_encloses top bottom marks a b p ra rb truth tails.0 tails.1 (biased-Completes marks a b))
    (least_case_below top bottom marks a b p ra rb tails.0 tails.1 tails.2)

pub swapped_in_order : ForPersistence (λ top bottom marks a b. neg_ℤ (biased_least_hi top bottom marks b a) ≤ℤ neg_ℤ (biased_least_lo top bottom marks b a))
swapped_in_order top bottom marks a b p ra rb = negation_swaps (biased_least_lo top bottom marks b a) (biased_least_hi top bottom marks b a) (ends_in_order top bottom marks b a p rb ra)
  where
    negation_swaps : (z w : ℤ) → z ≤ℤ w → neg_ℤ w ≤ℤ neg_ℤ z
    negation_swaps z w h = omega (arith, ints)

-- the ends of the swapped runs: least and greatest change places, and the ends of each are negated and change places
pub ends_swapped : ForPersistence (λ top bottom marks a b. let ends = biased_ends top bottom marks a b in
    biased_ends top bottom marks b a ≡ record { least_lo = neg_ℤ ends.most_hi; least_hi = neg_ℤ ends.most_lo; most_lo = neg_ℤ ends.least_hi; most_hi = neg_ℤ ends.least_lo })
ends_swapped top bottom marks a b p ra rb =
    let ends : ℤ → ℤ → Ends = λ lo hi. record { least_lo = lo; least_hi = hi; most_lo = neg_ℤ (biased_least_hi top bottom marks a b); most_hi = neg_ℤ (biased_least_lo top bottom marks a b) } in
    sym (ap (λ z. ends z (neg_ℤ (neg_ℤ (biased_least_hi top bottom marks b a)))) (neg_twice (biased_least_lo top bottom marks b a))
    ∙ ap (ends (biased_least_lo top bottom marks b a)) (neg_twice (biased_least_hi top bottom marks b a)))

pub bounds_small : ForRun (λ top bottom marks a. (biased_bound_lo top bottom marks a ≤ 10 ^ 18) × (biased_bound_hi top bottom marks a ≤ 10 ^ 18))
bounds_small top bottom marks a p ra = (bound_lo-most top bottom marks a (omega (arith, p.below_one)) (omega (arith, p.below_one)), omega arith)

-- what is left after 10^24 places is less than one part of S
pub tail_little : (top bottom n : ℕ) → IsPersistence top bottom → n ≡ 10 ^ 24 → 10 ^ 18 * top ^ n < bottom ^ n
tail_little top bottom n p e =
    let apart : 0 < bottom - top = omega (arith, p.below_one) in
    let few : top + (bottom - top) ≤ 1000000 = omega (arith, p.below_one, persistence-small top bottom p) in
    subst (λ (m : ℕ). 10 ^ 18 * top ^ n < m ^ n) (parts top bottom p.below_one) (little_left top (bottom - top) n e p.positive apart few)

-- the weights of a rank enclose S times (b - a) * a^(rank - 1) over b^rank
pub rank_low : (a b i : ℕ) → a < b → 1 ≤ i → low_weight a b (Some i) * b ^ i ≤ 10 ^ 18 * ((b - a) * a ^ (i - 1))
rank_low a b i h k =
    let here = weight_low a (b - a) i (Some i) (k, omega arith) in
    let none : i - i ≡ 0 = omega arith in
    let one : (a + (b - a)) ^ (i - i) ≡ 1 = ap (λ n. (a + (b - a)) ^ n) none ∙ pow-zero (a + (b - a)) in
    let worth : 10 ^ 18 * ((b - a) * (a ^ (i - 1) * (a + (b - a)) ^ (i - i))) ≡ 10 ^ 18 * ((b - a) * a ^ (i - 1)) = omega (arith, ap (λ n. 10 ^ 18 * ((b - a) * (a ^ (i - 1) * n))) one) in
    subst (λ (n : ℕ). low_weight a n (Some i) * n ^ i ≤ 10 ^ 18 * ((b - a) * a ^ (i - 1))) (parts a b h) (omega (arith, here, worth))

pub rank_high : (a b i : ℕ) → a < b → 1 ≤ i → 10 ^ 18 * ((b - a) * a ^ (i - 1)) ≤ high_weight a b (Some i) * b ^ i
rank_high a b i h k =
    let here = weight_high a (b - a) i (Some i) (omega (arith, h)) (k, omega arith) in
    let none : i - i ≡ 0 = omega arith in
    let one : (a + (b - a)) ^ (i - i) ≡ 1 = ap (λ n. (a + (b - a)) ^ n) none ∙ pow-zero (a + (b - a)) in
    let worth : 10 ^ 18 * ((b - a) * (a ^ (i - 1) * (a + (b - a)) ^ (i - i))) ≡ 10 ^ 18 * ((b - a) * a ^ (i - 1)) = omega (arith, ap (λ n. 10 ^ 18 * ((b - a) * (a ^ (i - 1) * n))) one) in
    subst (λ (n : ℕ). 10 ^ 18 * ((b - a) * a ^ (i - 1)) ≤ high_weight a n (Some i) * n ^ i) (parts a b h) (omega (arith, here, worth))
