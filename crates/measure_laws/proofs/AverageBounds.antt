-- The candidates reach the extremes of average precision, exact and rounded, and the bounds of a run are the rounded ones.
use Rattle.std.proofs.Common.{◌≡◌, ℕ, zero, suc, ◌+◌, ◌-◌, ◌*◌, ◌^◌, ◌<◌, ◌≤◌, min, nat_lt, Bool, true, false, cond, List, [], ◌∷◌, length, map, ap, refl, sym, subst, ◌∙◌, inl, inr, ℤ, pos, arith}
use Rattle.std.specs.Prelude.{if◌then◌else◌}
use Rattle.std.specs.List.{AllZip, AllByRecursion, range_with_len}
use Rattle.std.proofs.Math.Nat.{mul-le-mul_right, le_of_mul-le-mul_right}
use Rattle.std.proofs.lemmas.Bool.{cases_lt, ltb-true, ltb-false}
use Rattle.std.proofs.lemmas.Int.{ints}
use Rattle.std.proofs.lemmas.List.Elements.{recursion_from_All}
use Rattle.desk_model.specs.Completion.{Allows, Completes}
use Rattle.desk_model.specs.Fraction.{Fraction, over, IsAtMost, IsAtLeast}
use Rattle.desk_model.specs.Extremes.{IsAtMostScore, IsAtLeastScore}
use Rattle.desk_model.specs.Ranking.{IsRanking}
use Rattle.desk_model.specs.Score.{true_count}
use Rattle.desk_model.specs.declared.types.Mark.{Mark}
use Rattle.desk_model.proofs.Completions.{with_picked-Completes}
use Rattle.desk_model.proofs.Fractions.{at_most_in, at_least_in}
use Rattle.desk_model.proofs.Topics.{over-den}
use Rattle.measure_laws.specs.Refinement.{AreRefinedBy}
use Rattle.measure_laws.proofs.RecallEnds.{count_le_universe}
use Rattle.measure_laws.proofs.Refined.{length-refined, completes_before}
use Rattle.desk_model.specs.Precisions.{true_ranks}
use Rattle.measure_laws.specs.Parts.{average_precision}
use Rattle.measure_laws.specs.Parts.{ranked_sum, low_part, high_part, low_average, high_average}
use Rattle.measure_laws.specs.Candidates.{open_docs, high_truth, low_truth, later_candidates, first_smallest, first_greatest, low_choice, high_choice, average_bound_lo, average_bound_hi}
use Rattle.measure_laws.proofs.Earliest.{NoLater, NoLater-length, opens, taken, left, taken_few, left_few, first_gains, last_gains, first_is_earliest, last_is_latest}
use Rattle.measure_laws.specs.AverageLaws.{IsNoMore}
use Rattle.measure_laws.proofs.RankSums.{ArePositive, ranks_positive, mean_falls, low_falls, high_falls, low_below, high_above, low_near, high_near, ranks_deep, high_out-most}
use Rattle.measure_laws.proofs.AlongRanking.{along, allowed_along, ranks_counted, lacking, count_parts, opens_along, first_along, last_along, high_lacks_fewer, low_lacks_more}

chain : (a b c : ℕ) → a ≤ b → b ≤ c → a ≤ c
chain a b c h k = omega (arith, h, k)

-- the ranks of a completion along a ranking
abbrev ranks_of : (ℕ → Bool) → List ℕ → List ℕ
ranks_of truth docs = true_ranks 1 (map truth docs)

-- the number of the candidates that a completion is compared with
abbrev pub taken_in : List Mark → (ℕ → Bool) → List ℕ → ℕ
taken_in marks truth docs = taken (along marks docs) (map truth docs)

abbrev pub left_in : List Mark → (ℕ → Bool) → List ℕ → ℕ
left_in marks truth docs = left (along marks docs) (map truth docs)

few_ranks : (n : ℕ) (truth : ℕ → Bool) (docs : List ℕ) → IsRanking n docs → length (ranks_of truth docs) ≤ true_count truth n
few_ranks n truth docs r = omega (arith, ranks_counted 1 truth docs, count_le_universe truth n docs r.distinct (recursion_from_All (λ d. d < n) docs r.within))

-- ---- one completion against its candidates
high_earlier : (marks : List Mark) (docs : List ℕ) (truth : ℕ → Bool) → IsRanking (length marks) docs → Completes marks truth → NoLater (ranks_of (high_truth marks docs (taken_in marks truth docs)) docs) (ranks_of truth docs)
high_earlier marks docs truth r c =
    subst (λ (gs : List Bool). NoLater (true_ranks 1 gs) (ranks_of truth docs)) (sym (first_along marks docs r.distinct (taken_in marks truth docs)))
    (first_is_earliest 1 (along marks docs) (map truth docs) (omega arith) (allowed_along marks truth docs (recursion_from_All (λ d. d < length marks) docs r.within) c))

-- the low candidate with as many unjudged documents left out
low_number : (marks : List Mark) (docs : List ℕ) (s : ℕ) → s ≤ length (open_docs marks docs) → length (open_docs marks docs) - (length (open_docs marks docs) - s) ≡ s
low_number marks docs s h = omega (arith, h)

abbrev pub low_taken : List Mark → (ℕ → Bool) → List ℕ → ℕ
low_taken marks truth docs = length (open_docs marks docs) - left_in marks truth docs

low_later : (marks : List Mark) (docs : List ℕ) (truth : ℕ → Bool) → IsRanking (length marks) docs → Completes marks truth → NoLater (ranks_of truth docs) (ranks_of (low_truth marks docs (low_taken marks truth docs)) docs)
low_later marks docs truth r c =
    let few : left_in marks truth docs ≤ length (open_docs marks docs) = omega (arith, left_few (along marks docs) (map truth docs), opens_along marks docs) in
    let is : map (low_truth marks docs (low_taken marks truth docs)) docs ≡ last_gains (along marks docs) (left_in marks truth docs) =
    last_along marks docs r.distinct (low_taken marks truth docs) ∙ ap (last_gains (along marks docs)) (low_number marks docs (left_in marks truth docs) few) in
    subst (λ (gs : List Bool). NoLater (ranks_of truth docs) (true_ranks 1 gs)) (sym is)
    (last_is_latest 1 (along marks docs) (map truth docs) (omega arith) (allowed_along marks truth docs (recursion_from_All (λ d. d < length marks) docs r.within) c))

high_count : (marks : List Mark) (docs : List ℕ) (truth : ℕ → Bool) → IsRanking (length marks) docs → Completes marks truth →
    true_count (high_truth marks docs (taken_in marks truth docs)) (length marks) ≤ true_count truth (length marks)
high_count marks docs truth r c =
    let high = high_truth marks docs (taken_in marks truth docs) in
    omega (
      arith,
      count_parts high (length marks) docs r,
      count_parts truth (length marks) docs r,
      ranks_counted 1 high docs,
      ranks_counted 1 truth docs,
      NoLater-length (ranks_of high docs) (ranks_of truth docs) (high_earlier marks docs truth r c),
      high_lacks_fewer marks docs (taken_in marks truth docs) truth c,
    )

low_count : (marks : List Mark) (docs : List ℕ) (truth : ℕ → Bool) → IsRanking (length marks) docs → Completes marks truth →
    true_count truth (length marks) ≤ true_count (low_truth marks docs (low_taken marks truth docs)) (length marks)
low_count marks docs truth r c =
    let low = low_truth marks docs (low_taken marks truth docs) in
    omega (
      arith,
      count_parts low (length marks) docs r,
      count_parts truth (length marks) docs r,
      ranks_counted 1 low docs,
      ranks_counted 1 truth docs,
      NoLater-length (ranks_of truth docs) (ranks_of low docs) (low_later marks docs truth r c),
      low_lacks_more marks docs (low_taken marks truth docs) truth c,
    )

-- a completion's score lies between those of a low and of a high candidate
pub score_below_high : (marks : List Mark) (docs : List ℕ) (truth : ℕ → Bool) → IsRanking (length marks) docs → Completes marks truth →
    IsNoMore (average_precision (length marks) truth docs) (average_precision (length marks) (high_truth marks docs (taken_in marks truth docs)) docs)
score_below_high marks docs truth r c =
    let high = high_truth marks docs (taken_in marks truth docs) in
    mean_falls (ranks_of high docs) (ranks_of truth docs) (true_count high (length marks)) (true_count truth (length marks)) (ranks_positive 1 (map high docs) (omega arith)) (ranks_positive 1 (map truth docs) (omega arith))
    (high_earlier marks docs truth r c) (few_ranks (length marks) high docs r) (high_count marks docs truth r c)

pub low_below_score : (marks : List Mark) (docs : List ℕ) (truth : ℕ → Bool) → IsRanking (length marks) docs → Completes marks truth →
    IsNoMore (average_precision (length marks) (low_truth marks docs (low_taken marks truth docs)) docs) (average_precision (length marks) truth docs)
low_below_score marks docs truth r c =
    let low = low_truth marks docs (low_taken marks truth docs) in
    mean_falls (ranks_of truth docs) (ranks_of low docs) (true_count truth (length marks)) (true_count low (length marks)) (ranks_positive 1 (map truth docs) (omega arith)) (ranks_positive 1 (map low docs) (omega arith))
    (low_later marks docs truth r c) (few_ranks (length marks) truth docs r) (low_count marks docs truth r c)

-- and so do the rounded ones
average_below_high : (marks : List Mark) (docs : List ℕ) (truth : ℕ → Bool) → IsRanking (length marks) docs → Completes marks truth →
    high_average (length marks) truth docs ≤ high_average (length marks) (high_truth marks docs (taken_in marks truth docs)) docs
average_below_high marks docs truth r c =
    let high = high_truth marks docs (taken_in marks truth docs) in
    high_falls (ranks_of high docs) (ranks_of truth docs) (true_count high (length marks)) (true_count truth (length marks)) (high_earlier marks docs truth r c) (few_ranks (length marks) high docs r) (high_count marks docs truth r c)

low_below_average : (marks : List Mark) (docs : List ℕ) (truth : ℕ → Bool) → IsRanking (length marks) docs → Completes marks truth →
    low_average (length marks) (low_truth marks docs (low_taken marks truth docs)) docs ≤ low_average (length marks) truth docs
low_below_average marks docs truth r c =
    let low = low_truth marks docs (low_taken marks truth docs) in
    low_falls (ranks_of truth docs) (ranks_of low docs) (true_count truth (length marks)) (true_count low (length marks)) (low_later marks docs truth r c) (few_ranks (length marks) truth docs r) (low_count marks docs truth r c)

-- ---- the chosen candidates
smaller_of : (number : ℕ → ℕ) (best t : ℕ) (b : Bool) → nat_lt (number t) (number best) ≡ b → (number (if b then t else best) ≤ number best) × (number (if b then t else best) ≤ number t)
smaller_of number best t true e = let less = ltb-true (number t) (number best) e in (omega (arith, less), omega arith)
smaller_of number best t false e = let more = ltb-false (number t) (number best) e in (omega arith, omega (arith, more))

smallest-least : (number : ℕ → ℕ) (best : ℕ) (ts : List ℕ) → (number (first_smallest number best ts) ≤ number best) × AllByRecursion (λ t. number (first_smallest number best ts) ≤ number t) ts
smallest-least number best [] = (omega arith, tt)
smallest-least number best (t ∷ ts) =
    let b = nat_lt (number t) (number best) in
    let here = smaller_of number best t b refl in
    let later = smallest-least number (if b then t else best) ts in
    (omega (arith, here.0, later.0), (omega (arith, here.1, later.0), later.1))

greater_of : (number : ℕ → ℕ) (best t : ℕ) (b : Bool) → nat_lt (number best) (number t) ≡ b → (number best ≤ number (if b then t else best)) × (number t ≤ number (if b then t else best))
greater_of number best t true e = let less = ltb-true (number best) (number t) e in (omega (arith, less), omega arith)
greater_of number best t false e = let more = ltb-false (number best) (number t) e in (omega arith, omega (arith, more))

greatest-most : (number : ℕ → ℕ) (best : ℕ) (ts : List ℕ) → (number best ≤ number (first_greatest number best ts)) × AllByRecursion (λ t. number t ≤ number (first_greatest number best ts)) ts
greatest-most number best [] = (omega arith, tt)
greatest-most number best (t ∷ ts) =
    let b = nat_lt (number best) (number t) in
    let here = greater_of number best t b refl in
    let later = greatest-most number (if b then t else best) ts in
    (omega (arith, here.0, later.0), (omega (arith, here.1, later.0), later.1))

in_range_all : (P : ℕ → Type 0) (start n : ℕ) → AllByRecursion P (range_with_len start n) → (t : ℕ) → start ≤ t → t < start + n → P t
in_range_all P start zero h t le lt = absurd (omega (arith, le, lt))
in_range_all P start (suc n) h t le lt = elim (cases_lt start t) [
  | inl more ↦ in_range_all P (start + 1) n h.1 t (omega (arith, more)) (omega (arith, lt))
  | inr least ↦ let same : start ≡ t = omega (arith, le, least) in subst P same h.0
]

chosen_least : (number : ℕ → ℕ) (u t : ℕ) → t ≤ u → number (first_smallest number 0 (range_with_len 1 u)) ≤ number t
chosen_least number u zero h = (smallest-least number 0 (range_with_len 1 u)).0
chosen_least number u (suc t) h =
    in_range_all (λ k. number (first_smallest number 0 (range_with_len 1 u)) ≤ number k) 1 u (smallest-least number 0 (range_with_len 1 u)).1 (suc t) (omega arith) (omega (arith, h))

chosen_most : (number : ℕ → ℕ) (u t : ℕ) → t ≤ u → number t ≤ number (first_greatest number 0 (range_with_len 1 u))
chosen_most number u zero h = (greatest-most number 0 (range_with_len 1 u)).0
chosen_most number u (suc t) h =
    in_range_all (λ k. number k ≤ number (first_greatest number 0 (range_with_len 1 u))) 1 u (greatest-most number 0 (range_with_len 1 u)).1 (suc t) (omega arith) (omega (arith, h))

-- ---- the bounds of a run are the extremes of its rounded averages over all completions
pub bound_lo_least : (marks : List Mark) (docs : List ℕ) (truth : ℕ → Bool) → IsRanking (length marks) docs → Completes marks truth → average_bound_lo marks docs ≤ low_average (length marks) truth docs
unfolding average_bound_lo
bound_lo_least marks docs truth r c =
    let number : ℕ → ℕ = λ t. low_average (length marks) (low_truth marks docs t) docs in
    omega (arith, chosen_least number (length (open_docs marks docs)) (low_taken marks truth docs) (omega arith), low_below_average marks docs truth r c)

smaller_first : (s n : ℕ) → n ≤ s → min s n ≡ n
smaller_first s n h = omega (arith, h)

pub high_average-most : (n : ℕ) (truth : ℕ → Bool) (docs : List ℕ) → IsRanking n docs → high_average n truth docs ≤ 10 ^ 18
high_average-most n truth docs r = high_out-most (ranks_of truth docs) (true_count truth n) (ranks_deep 1 1 (map truth docs) (omega arith) (omega arith)) (few_ranks n truth docs r)

-- the smaller of S and the greatest is the greatest
pub bound_hi_is : (marks : List Mark) (docs : List ℕ) → IsRanking (length marks) docs → average_bound_hi marks docs ≡ high_average (length marks) (high_truth marks docs (high_choice marks docs)) docs
unfolding average_bound_hi
bound_hi_is marks docs r = smaller_first (10 ^ 18) (high_average (length marks) (high_truth marks docs (high_choice marks docs)) docs) (high_average-most (length marks) (high_truth marks docs (high_choice marks docs)) docs r)

pub bound_hi_greatest : (marks : List Mark) (docs : List ℕ) (truth : ℕ → Bool) → IsRanking (length marks) docs → Completes marks truth → high_average (length marks) truth docs ≤ average_bound_hi marks docs
bound_hi_greatest marks docs truth r c =
    let number : ℕ → ℕ = λ t. high_average (length marks) (high_truth marks docs t) docs in
    let few : taken_in marks truth docs ≤ length (open_docs marks docs) = omega (arith, taken_few (along marks docs) (map truth docs), opens_along marks docs) in
    omega (arith, chosen_most number (length (open_docs marks docs)) (taken_in marks truth docs) few, average_below_high marks docs truth r c, bound_hi_is marks docs r)

-- ---- and enclose S times the score in every completion
pub average_at_most : (n : ℕ) (truth : ℕ → Bool) (docs : List ℕ) (w : ℕ) → w ≤ low_average n truth docs → IsAtMostScore (pos w) (10 ^ 18) (average_precision n truth docs)
average_at_most n truth docs w h =
    let x = average_precision n truth docs in
    let below = low_below (ranks_of truth docs) (true_count truth n) (ranks_positive 1 (map truth docs) (omega arith)) in
    let fewer : w * x.den ≤ low_average n truth docs * x.den = mul-le-mul_right x.den h in
    at_most_in (pos w) (10 ^ 18) x (over 0 1) (omega (arith, below, fewer))

pub average_at_least : (n : ℕ) (truth : ℕ → Bool) (docs : List ℕ) (w : ℕ) → high_average n truth docs ≤ w → IsAtLeastScore (pos w) (10 ^ 18) (average_precision n truth docs)
average_at_least n truth docs w h =
    let x = average_precision n truth docs in
    let above = high_above (ranks_of truth docs) (true_count truth n) (ranks_positive 1 (map truth docs) (omega arith)) in
    let more : high_average n truth docs * x.den ≤ w * x.den = mul-le-mul_right x.den h in
    at_least_in (pos w) (10 ^ 18) x (over 0 1) (omega (arith, above, more))

-- ---- more judging: the bounds close in
pub bound_lo_rises : (marks later : List Mark) (docs : List ℕ) → AreRefinedBy marks later → IsRanking (length marks) docs → average_bound_lo marks docs ≤ average_bound_lo later docs
unfolding average_bound_lo
bound_lo_rises marks later docs h r =
    let truth = low_truth later docs (low_choice later docs) in
    subst (λ (n : ℕ). average_bound_lo marks docs ≤ low_average n truth docs) (sym (length-refined marks later h))
    (bound_lo_least marks docs truth r (completes_before marks later truth h (with_picked-Completes later _)))

pub bound_hi_falls : (marks later : List Mark) (docs : List ℕ) → AreRefinedBy marks later → IsRanking (length marks) docs → average_bound_hi later docs ≤ average_bound_hi marks docs
bound_hi_falls marks later docs h r =
    let truth = high_truth later docs (high_choice later docs) in
    let n = length-refined marks later h in
    let ranked : IsRanking (length later) docs = subst (λ (k : ℕ). IsRanking k docs) (sym n) r in
    let known : high_average (length later) truth docs ≤ average_bound_hi marks docs =
    subst (λ (k : ℕ). high_average k truth docs ≤ average_bound_hi marks docs) (sym n) (bound_hi_greatest marks docs truth r (completes_before marks later truth h (with_picked-Completes later _))) in
    omega (arith, known, bound_hi_is later docs ranked)

-- ---- sizes
bounds_in_order : (lo hi : ℕ) (x : Fraction) → 0 < x.den → lo * x.den ≤ 10 ^ 18 * x.num → 10 ^ 18 * x.num ≤ hi * x.den → lo ≤ hi
bounds_in_order lo hi x p h k = le_of_mul-le-mul_right (omega (arith, h, k)) p

pub average-den : (n : ℕ) (truth : ℕ → Bool) (docs : List ℕ) → 0 < (average_precision n truth docs).den
average-den n truth docs = over-den _ _

pub low_average-most : (n : ℕ) (truth : ℕ → Bool) (docs : List ℕ) → IsRanking n docs → low_average n truth docs ≤ 10 ^ 18
low_average-most n truth docs r =
    let positive = ranks_positive 1 (map truth docs) (omega arith) in
    let order = bounds_in_order (low_average n truth docs) (high_average n truth docs) (average_precision n truth docs) (average-den n truth docs) (low_below (ranks_of truth docs) (true_count truth n) positive) (high_above (ranks_of truth docs) (true_count truth n) positive) in
    omega (arith, order, high_average-most n truth docs r)

pub bound_lo-most : (marks : List Mark) (docs : List ℕ) → IsRanking (length marks) docs → average_bound_lo marks docs ≤ 10 ^ 18
unfolding average_bound_lo
bound_lo-most marks docs r = low_average-most (length marks) (low_truth marks docs (low_choice marks docs)) docs r

pub bound_hi-most : (marks : List Mark) (docs : List ℕ) → IsRanking (length marks) docs → average_bound_hi marks docs ≤ 10 ^ 18
bound_hi-most marks docs r = omega (arith, bound_hi_is marks docs r, high_average-most (length marks) (high_truth marks docs (high_choice marks docs)) docs r)

-- ---- what the laws name
pub taken_in-few : (marks : List Mark) (truth : ℕ → Bool) (docs : List ℕ) → taken_in marks truth docs ≤ length (open_docs marks docs)
taken_in-few marks truth docs = omega (arith, taken_few (along marks docs) (map truth docs), opens_along marks docs)

pub low_taken-few : (marks : List Mark) (truth : ℕ → Bool) (docs : List ℕ) → low_taken marks truth docs ≤ length (open_docs marks docs)
low_taken-few marks truth docs = omega arith

pub bound_lo_attained : (marks : List Mark) (docs : List ℕ) → IsRanking (length marks) docs → (truth : ℕ → Bool) × Completes marks truth × (average_bound_lo marks docs ≡ low_average (length marks) truth docs)
unfolding average_bound_lo
bound_lo_attained marks docs r = (low_truth marks docs (low_choice marks docs), with_picked-Completes marks _, refl)

pub bound_hi_attained : (marks : List Mark) (docs : List ℕ) → IsRanking (length marks) docs → (truth : ℕ → Bool) × Completes marks truth × (average_bound_hi marks docs ≡ high_average (length marks) truth docs)
bound_hi_attained marks docs r = (high_truth marks docs (high_choice marks docs), with_picked-Completes marks _, bound_hi_is marks docs r)

pub low_average-near : (n : ℕ) (truth : ℕ → Bool) (docs : List ℕ) → IsRanking n docs → 10 ^ 18 * (average_precision n truth docs).num < (low_average n truth docs + 2) * (average_precision n truth docs).den
low_average-near n truth docs r = low_near (ranks_of truth docs) (true_count truth n) (ranks_positive 1 (map truth docs) (omega arith)) (few_ranks n truth docs r)

pub high_average-near : (n : ℕ) (truth : ℕ → Bool) (docs : List ℕ) → IsRanking n docs → high_average n truth docs * (average_precision n truth docs).den < 10 ^ 18 * (average_precision n truth docs).num + 2 * (average_precision n truth docs).den
high_average-near n truth docs r = high_near (ranks_of truth docs) (true_count truth n) (ranks_positive 1 (map truth docs) (omega arith)) (few_ranks n truth docs r)
