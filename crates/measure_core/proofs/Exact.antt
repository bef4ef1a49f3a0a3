-- The laws of a measure whose extremes are those of completions alone, from the least case having the least difference.
use Rattle.std.proofs.Common.{◌≡◌, ℕ, zero, suc, ◌+◌, ◌*◌, ◌^◌, ◌<◌, ◌≤◌, Bool, List, [], length, take, ℤ, pos, neg_ℤ, arith, rules, refl, ap, sym, subst}
use Rattle.std.specs.List.{IsDistinct}
use Rattle.std.proofs.lemmas.Int.{ints}
use Rattle.std.proofs.Math.Nat.{mul-le-mul_right, le_of_mul-le-mul_right}
use Rattle.std.proofs.lemmas.List.Sums.{count_by-le-length}
use Rattle.std.proofs.lemmas.List.{length-take}
use borrow.Author.Differences.{up, down}
use Rattle.desk_model.specs.Ranking.{IsRanking}
use Rattle.desk_model.specs.Fraction.{Fraction, over, IsAtMost, IsAtLeast}
use Rattle.desk_model.specs.Score.{score, true_count, true_among}
use Rattle.desk_model.specs.Extremes.{InEvery, InSome, IsGreatest, IsSmallest, Ends, AreExtremes, AreBounds}
use Rattle.desk_model.proofs.Fractions.{at_most_in, at_most_out, at_least_in, at_least_out}
use Rattle.desk_model.proofs.Topics.{score-den}
use Rattle.desk_model.proofs.Exact.{at_most_least}
use Rattle.measure_laws.specs.Cases.{least_truth, HasLeastTails}
use Rattle.desk_model.specs.MeasureText.{IsMeasure}
use Rattle.measure_laws.specs.Measures.{unit_of, IsExactMeasure}
use Rattle.measure_laws.specs.Shares.{IsModest}
use Rattle.measure_laws.proofs.LeastEnds.{least_ends}
use Rattle.measure_laws.proofs.Scores.{score-most, difference_low, difference_high, within_unit}
use Rattle.measure_laws.proofs.LeastCases.{least_case_is_least}
use Rattle.measure_laws.proofs.Swapping.{most_ends}
use Rattle.measure_laws.proofs.Weights.{unit-size}
use Rattle.topic_counts.specs.Ends.{IsShort}
use Rattle.topic_counts.specs.Numbers.{difference_span, negated}
use Rattle.topic_counts.proofs.Spans.{difference_floor, difference_ceiling, span, span_same}
use Rattle.desk_model.specs.declared.types.Mark.{Mark}
use Rattle.desk_model.specs.declared.types.MeasureName.{MeasureName}
use Rattle.desk_model.specs.declared.types.MeasureName.TheVariants.{Precision, Recall, RPrecision, Reciprocal, Biased, AveragePrecision}
use Rattle.topic_counts.specs.declared.span.Span.{Span}
use Rattle.measure_laws.proofs.Unique.{greatest_unique, smallest_unique, extremes_unique}
use Rattle.measure_core.specs.declared.cell.Cell.{Cell}
use Rattle.measure_core.specs.Laws.{IsMet, BoundsScore, swapped_cell, SpanIsModest, MeetsLaws}
use Rattle.measure_laws.specs.Ends.{HasEnds}
use Rattle.measure_core.specs.Made.{ends_of, HasBounds, AreNumbersOfName}
use Rattle.measure_core.specs.Numbers.{exact_least, exact_cell, exact_bounds}
use Rattle.measure_core.proofs.Swapped.{negated_twice, swapped_modest, meets_laws}

-- ---- the least case
-- its two ends are the floor and the ceiling over all completions
pub exact_least_ends : (m : MeasureName) (marks : List Mark) (a b : List ℕ) → IsMeasure m → IsExactMeasure m → IsRanking (length marks) a → IsRanking (length marks) b →
    IsGreatest (λ z. InEvery m marks a b (IsAtMost z (unit_of m))) (exact_least m marks a b).lo × IsSmallest (λ z. InSome m marks a b (IsAtLeast z (unit_of m))) (exact_least m marks a b).hi
unfolding exact_least
exact_least_ends m marks a b valid exact ra rb =
    let truth = least_truth m marks a b in
    let n = length marks in
    let x = score m n truth a [] in
    let y = score m n truth b [] in
    least_ends m (unit_of m) marks a b truth (difference_span (unit_of m) x y).lo (difference_span (unit_of m) x y).hi (least_case_is_least m marks a b valid exact ra rb)
    (difference_floor (unit_of m) x y (score-den m n truth a []) (score-den m n truth b [])) (difference_ceiling (unit_of m) x y (score-den m n truth a []) (score-den m n truth b []))

case_within : (m : MeasureName) (marks : List Mark) (a b : List ℕ) →
    let truth = least_truth m marks a b in
    let x = score m (length marks) truth a [] in
    let y = score m (length marks) truth b [] in IsAtMost (exact_least m marks a b).lo (unit_of m) x y × IsAtLeast (exact_least m marks a b).hi (unit_of m) x y
unfolding exact_least
case_within m marks a b =
    let truth = least_truth m marks a b in
    let n = length marks in
    let x = score m n truth a [] in
    let y = score m n truth b [] in
    ((difference_floor (unit_of m) x y (score-den m n truth a []) (score-den m n truth b [])).so, (difference_ceiling (unit_of m) x y (score-den m n truth a []) (score-den m n truth b [])).so)

no_tails : (m : MeasureName) (tail_a tail_b : List Bool) → IsExactMeasure m → HasLeastTails m tail_a tail_b → (tail_a ≡ []) × (tail_b ≡ [])
no_tails (Precision k) tail_a tail_b exact h = h
no_tails (Recall k) tail_a tail_b exact h = h
no_tails RPrecision tail_a tail_b exact h = h
no_tails Reciprocal tail_a tail_b exact h = h
no_tails (Biased top bottom) tail_a tail_b exact h = absurd exact
no_tails AveragePrecision tail_a tail_b exact h = absurd exact

-- with the tails that go with it, its difference is at most the upper end
case_high : (m : MeasureName) (marks : List Mark) (a b : List ℕ) (tail_a tail_b : List Bool) → IsExactMeasure m → HasLeastTails m tail_a tail_b →
    IsAtLeast (exact_least m marks a b).hi (unit_of m) (score m (length marks) (least_truth m marks a b) a tail_a) (score m (length marks) (least_truth m marks a b) b tail_b)
case_high m marks a b tail_a tail_b exact tails =
    let none = no_tails m tail_a tail_b exact tails in
    rw (none.0, none.1) (case_within m marks a b).1

pub swaps : (m : MeasureName) (marks : List Mark) (a b : List ℕ) → exact_cell m marks b a ≡ swapped_cell (exact_cell m marks a b)
swaps m marks a b = ap (λ (s : Span). cell s (negated (exact_least m marks a b))) (sym (negated_twice (exact_least m marks b a)))
  where
    cell : Span → Span → Cell
    cell s t = record { least = s; most = t }

-- ---- the extremes
pub extremes : (m : MeasureName) (marks : List Mark) (a b : List ℕ) → IsMeasure m → IsExactMeasure m → IsRanking (length marks) a → IsRanking (length marks) b →
    AreExtremes m (unit_of m) marks a b (ends_of (exact_cell m marks a b))
extremes m marks a b valid exact ra rb =
    let least = exact_least_ends m marks a b valid exact ra rb in
    let other = exact_least_ends m marks b a valid exact rb ra in
    let most = most_ends m (unit_of m) marks a b (exact_least m marks b a).lo (exact_least m marks b a).hi other.0 other.1 in
    record { least_lo = least.0; least_hi = least.1; most_hi = most.0; most_lo = most.1 }

-- ---- sizes
pub difference_modest : (u : ℕ) (x y : Fraction) → u ≤ 10 ^ 18 → 0 < x.den → 0 < y.den → x.num ≤ x.den → y.num ≤ y.den → SpanIsModest (difference_span u x y)
difference_modest u x y small px py hx hy =
    let floor = difference_floor u x y px py in
    let ceiling = difference_ceiling u x y px py in
    let low = difference_low u x y hy in
    let high = difference_high u x y hx in (
      within_unit _ u small (floor.others (neg_ℤ (pos u)) low) (at_most_least _ (pos u) u x y px py floor.so high),
      within_unit _ u small (at_most_least (neg_ℤ (pos u)) _ u x y px py low ceiling.so) (ceiling.others (pos u) high),
    )

exact_modest : (m : MeasureName) (marks : List Mark) (a b : List ℕ) → IsMeasure m → IsExactMeasure m → IsRanking (length marks) a → IsRanking (length marks) b → SpanIsModest (exact_least m marks a b)
unfolding exact_least
exact_modest m marks a b valid exact ra rb =
    let truth = least_truth m marks a b in
    let n = length marks in
    difference_modest (unit_of m) (score m n truth a []) (score m n truth b []) (unit-size m valid).1 (score-den m n truth a []) (score-den m n truth b []) (score-most m n truth a [] exact ra) (score-most m n truth b [] exact rb)

-- modest ends are short
pub modest_short : (s : Span) → SpanIsModest s → IsShort s
modest_short s h = ((omega (arith, ints), omega (arith, ints)), (omega (arith, ints), omega (arith, ints)))

-- ---- the bounds of one run
pub IsRanking-empty : (n : ℕ) → IsRanking n []
unfolding IsDistinct
IsRanking-empty n = record { distinct = tt; within = search rules; short = omega arith }

pub bounds_modest : (m : MeasureName) (marks : List Mark) (a : List ℕ) → IsMeasure m → IsExactMeasure m → IsMet marks a → SpanIsModest (exact_bounds m marks a)
bounds_modest m marks a valid exact met =
    let low = exact_modest m marks a [] valid exact met.ranking (IsRanking-empty (length marks)) in
    let high = swapped_modest (exact_least m marks [] a) (exact_modest m marks [] a valid exact (IsRanking-empty (length marks)) met.ranking) in (low.0, high.1)

over-zero : (n d : ℕ) → n ≡ 0 → (over n d).num ≡ 0
over-zero n zero h = refl
over-zero n (suc d) h = h

none_among : (truth : ℕ → Bool) (k : ℕ) → true_among truth k [] ≡ 0
none_among truth k = omega (arith, count_by-le-length truth (take k []), length-take {A = ℕ} k [])

empty_score : (m : MeasureName) (n : ℕ) (truth : ℕ → Bool) (tail : List Bool) → IsExactMeasure m → (score m n truth [] tail).num ≡ 0
empty_score (Precision k) n truth tail exact = over-zero _ _ (none_among truth k)
empty_score (Recall k) n truth tail exact = over-zero _ _ (none_among truth k)
empty_score RPrecision n truth tail exact = over-zero _ _ (none_among truth (true_count truth n))
empty_score Reciprocal n truth tail exact = refl
empty_score (Biased top bottom) n truth tail exact = absurd exact
empty_score AveragePrecision n truth tail exact = absurd exact

nothing_off : (p n u a b c d : ℕ) → c ≡ 0 → 0 < d → p * (b * d) + u * (c * b) ≤ u * (a * d) + n * (b * d) → p * (b * 1) + u * (0 * b) ≤ u * (a * 1) + n * (b * 1)
nothing_off p n u a b c d e h k =
    let joined : (p * b) * d ≤ (u * a + n * b) * d = omega (arith, k, ap (λ s. u * (s * b)) e) in
    let small : p * b ≤ u * a + n * b = le_of_mul-le-mul_right joined h in omega (arith, small)

nothing_on : (p n u a b c d : ℕ) → c ≡ 0 → p * (b * 1) + u * (0 * b) ≤ u * (a * 1) + n * (b * 1) → p * (b * d) + u * (c * b) ≤ u * (a * d) + n * (b * d)
nothing_on p n u a b c d e k = omega (arith, mul-le-mul_right d k, ap (λ s. u * (s * b)) e)

nothing_off_high : (p n u a b c d : ℕ) → c ≡ 0 → 0 < d → u * (a * d) + n * (b * d) ≤ p * (b * d) + u * (c * b) → u * (a * 1) + n * (b * 1) ≤ p * (b * 1) + u * (0 * b)
nothing_off_high p n u a b c d e h k =
    let joined : (u * a + n * b) * d ≤ (p * b) * d = omega (arith, k, ap (λ s. u * (s * b)) e) in
    let small : u * a + n * b ≤ p * b = le_of_mul-le-mul_right joined h in omega (arith, small)

nothing_on_high : (p n u a b c d : ℕ) → c ≡ 0 → u * (a * 1) + n * (b * 1) ≤ p * (b * 1) + u * (0 * b) → u * (a * d) + n * (b * d) ≤ p * (b * d) + u * (c * b)
nothing_on_high p n u a b c d e k = omega (arith, mul-le-mul_right d k, ap (λ s. u * (s * b)) e)

to_zero : (z : ℤ) (u : ℕ) (x y : Fraction) → y.num ≡ 0 → 0 < y.den → IsAtMost z u x y → IsAtMost z u x (over 0 1)
to_zero z u x y e p h = at_most_in z u x (over 0 1) (nothing_off (up z) (down z) u x.num x.den y.num y.den e p (at_most_out z u x y h))

from_zero : (z : ℤ) (u : ℕ) (x y : Fraction) → y.num ≡ 0 → IsAtMost z u x (over 0 1) → IsAtMost z u x y
from_zero z u x y e h = at_most_in z u x y (nothing_on (up z) (down z) u x.num x.den y.num y.den e (at_most_out z u x (over 0 1) h))

to_zero_high : (z : ℤ) (u : ℕ) (x y : Fraction) → y.num ≡ 0 → 0 < y.den → IsAtLeast z u x y → IsAtLeast z u x (over 0 1)
to_zero_high z u x y e p h = at_least_in z u x (over 0 1) (nothing_off_high (up z) (down z) u x.num x.den y.num y.den e p (at_least_out z u x y h))

from_zero_high : (z : ℤ) (u : ℕ) (x y : Fraction) → y.num ≡ 0 → IsAtLeast z u x (over 0 1) → IsAtLeast z u x y
from_zero_high z u x y e h = at_least_in z u x y (nothing_on_high (up z) (down z) u x.num x.den y.num y.den e (at_least_out z u x (over 0 1) h))

pub ranges : (m : MeasureName) (marks : List Mark) (a : List ℕ) → IsMeasure m → IsExactMeasure m → IsRanking (length marks) a →
    AreBounds m (unit_of m) marks a (exact_bounds m marks a).lo (exact_bounds m marks a).hi
ranges m marks a valid exact ra =
    let n = length marks in
    let u = unit_of m in
    let none = IsRanking-empty n in
    let least = exact_least_ends m marks a [] valid exact ra none in
    let other = exact_least_ends m marks [] a valid exact none ra in
    let most = most_ends m u marks a [] (exact_least m marks [] a).lo (exact_least m marks [] a).hi other.0 other.1 in
    record {
      low = record {
        so = λ truth tail c. to_zero _ u _ (score m n truth [] []) (empty_score m n truth [] exact) (score-den m n truth [] []) (least.0.so truth tail [] c);
        others = λ w h. least.0.others w (λ truth tail tail_b c. from_zero w u _ (score m n truth [] tail_b) (empty_score m n truth tail_b exact) (h truth tail c));
      };
      high = record {
        so = λ truth tail c. to_zero_high _ u _ (score m n truth [] []) (empty_score m n truth [] exact) (score-den m n truth [] []) (most.0.so truth tail [] c);
        others = λ w h. most.0.others w (λ truth tail tail_b c. from_zero_high w u _ (score m n truth [] tail_b) (empty_score m n truth tail_b exact) (h truth tail c));
      };
    }

pub bounds_enclose : (m : MeasureName) (marks : List Mark) (a : List ℕ) → IsMeasure m → IsExactMeasure m → IsMet marks a → BoundsScore m marks a (exact_bounds m marks a)
bounds_enclose m marks a valid exact met = let known = ranges m marks a valid exact met.ranking in record { low = known.low.so; high = known.high.so }

-- bounds that are those of all completions are the ones above
bounds_known_modest : (m : MeasureName) (marks : List Mark) (a : List ℕ) (s : Span) → IsMeasure m → IsExactMeasure m → IsMet marks a → AreBounds m (unit_of m) marks a s.lo s.hi → SpanIsModest s
bounds_known_modest m marks a s valid exact met h =
    let known = ranges m marks a valid exact met.ranking in
    let small = bounds_modest m marks a valid exact met in
    let lo = greatest_unique _ s.lo (exact_bounds m marks a).lo h.low known.low in
    let hi = smallest_unique _ s.hi (exact_bounds m marks a).hi h.high known.high in
    (subst IsModest (sym lo) small.0, subst IsModest (sym hi) small.1)

-- ---- all laws together
pub exact_laws : (m : MeasureName) → IsMeasure m → IsExactMeasure m → MeetsLaws m (exact_cell m) (exact_bounds m)
exact_laws m valid exact = meets_laws m (exact_cell m) (exact_bounds m) valid (record {
  low = λ marks a b met. (exact_least_ends m marks a b valid exact met.first met.second).0.so;
  case = λ marks a b tail_a tail_b met tails. case_high m marks a b tail_a tail_b exact tails;
  modest = λ marks a b met. exact_modest m marks a b valid exact met.first met.second;
  swaps = λ marks a b met. swaps m marks a b;
  bounds_enclose = λ marks a met. bounds_enclose m marks a valid exact met;
  bounds_modest = λ marks a met. bounds_modest m marks a valid exact met;
})

-- the same with other bounds that are those of all completions
pub exact_laws_with : (m : MeasureName) (bounds : List Mark → List ℕ → Span) → IsMeasure m → IsExactMeasure m →
    ((marks : List Mark) (a : List ℕ) → IsMet marks a → AreBounds m (unit_of m) marks a (bounds marks a).lo (bounds marks a).hi) → MeetsLaws m (exact_cell m) bounds
exact_laws_with m bounds valid exact known = meets_laws m (exact_cell m) bounds valid (record {
  low = λ marks a b met. (exact_least_ends m marks a b valid exact met.first met.second).0.so;
  case = λ marks a b tail_a tail_b met tails. case_high m marks a b tail_a tail_b exact tails;
  modest = λ marks a b met. exact_modest m marks a b valid exact met.first met.second;
  swaps = λ marks a b met. swaps m marks a b;
  bounds_enclose = λ marks a met. let h = known marks a met in record { low = h.low.so; high = h.high.so };
  bounds_modest = λ marks a met. bounds_known_modest m marks a (bounds marks a) valid exact met (known marks a met);
})

-- ---- all numbers together
has_ends : (m : MeasureName) (marks : List Mark) (a b : List ℕ) → IsMeasure m → IsExactMeasure m → IsRanking (length marks) a → IsRanking (length marks) b → HasEnds m marks a b (ends_of (exact_cell m marks a b))
has_ends (Precision k) marks a b valid exact ra rb = extremes (Precision k) marks a b valid exact ra rb
has_ends (Recall k) marks a b valid exact ra rb = extremes (Recall k) marks a b valid exact ra rb
has_ends RPrecision marks a b valid exact ra rb = extremes RPrecision marks a b valid exact ra rb
has_ends Reciprocal marks a b valid exact ra rb = extremes Reciprocal marks a b valid exact ra rb
has_ends (Biased top bottom) marks a b valid exact ra rb = absurd exact
has_ends AveragePrecision marks a b valid exact ra rb = absurd exact

has_bounds : (m : MeasureName) (marks : List Mark) (a : List ℕ) → IsMeasure m → IsExactMeasure m → IsRanking (length marks) a → HasBounds m marks a (exact_bounds m marks a)
has_bounds (Precision k) marks a valid exact ra = ranges (Precision k) marks a valid exact ra
has_bounds (Recall k) marks a valid exact ra = ranges (Recall k) marks a valid exact ra
has_bounds RPrecision marks a valid exact ra = ranges RPrecision marks a valid exact ra
has_bounds Reciprocal marks a valid exact ra = ranges Reciprocal marks a valid exact ra
has_bounds (Biased top bottom) marks a valid exact ra = absurd exact
has_bounds AveragePrecision marks a valid exact ra = absurd exact

pub exact_numbers : (m : MeasureName) → IsMeasure m → IsExactMeasure m → AreNumbersOfName m (exact_cell m) (exact_bounds m)
exact_numbers m valid exact = record {
  cells = λ marks a b met. has_ends m marks a b valid exact met.first met.second;
  ranges = λ marks a met. has_bounds m marks a valid exact met.ranking;
}

-- ---- numbers that are those of all completions are these ones
pub ends_are : (m : MeasureName) (marks : List Mark) (a b : List ℕ) (e : Ends) → IsMeasure m → IsExactMeasure m → IsRanking (length marks) a → IsRanking (length marks) b →
    AreExtremes m (unit_of m) marks a b e → e ≡ ends_of (exact_cell m marks a b)
ends_are m marks a b e valid exact ra rb known = extremes_unique m (unit_of m) marks a b e (ends_of (exact_cell m marks a b)) known (extremes m marks a b valid exact ra rb)

pub bounds_are : (m : MeasureName) (marks : List Mark) (a : List ℕ) (lo hi : ℤ) → IsMeasure m → IsExactMeasure m → IsRanking (length marks) a →
    AreBounds m (unit_of m) marks a lo hi → span lo hi ≡ exact_bounds m marks a
bounds_are m marks a lo hi valid exact ra known =
    let bounds = exact_bounds m marks a in
    let same = ranges m marks a valid exact ra in
    span_same lo bounds.lo hi bounds.hi (greatest_unique _ lo bounds.lo known.low same.low) (smallest_unique _ hi bounds.hi known.high same.high)
