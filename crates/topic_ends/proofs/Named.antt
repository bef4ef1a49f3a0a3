-- The lower end of the least difference is the one that a measure's name has, and that end is there; ends of one completion are modest.
use Rattle.std.proofs.Common.{◌≡◌, ℕ, Bool, false, List, [], length, ℤ, pos, neg_ℤ, refl, ap, ◌∙◌, sym, subst, arith}
use Rattle.small_lemmas.proofs.Numbers.{neg_twice}
use Rattle.desk_model.specs.Completion.{with_picked}
use Rattle.desk_model.specs.Extremes.{AreExtremes, Ends, InEvery, IsGreatest, IsSmallest}
use Rattle.desk_model.specs.Fraction.{IsAtMost, IsAtLeast}
use Rattle.desk_model.specs.MeasureText.{IsMeasure}
use Rattle.desk_model.specs.Ranking.{IsRanking}
use Rattle.desk_model.specs.Score.{score}
use Rattle.desk_model.specs.declared.types.Mark.{Mark}
use Rattle.desk_model.specs.declared.types.MeasureName.{MeasureName}
use Rattle.desk_model.specs.declared.types.MeasureName.TheVariants.{Precision, Recall, RPrecision, Reciprocal, Biased, AveragePrecision}
use Rattle.desk_model.proofs.Completions.{with_picked-Completes}
use Rattle.desk_model.proofs.Exact.{at_most_least}
use Rattle.desk_model.proofs.Topics.{score-den}
use Rattle.topic_counts.specs.Numbers.{difference_span}
use Rattle.topic_counts.proofs.Spans.{difference_floor, difference_ceiling}
use Rattle.measure_laws.specs.AverageEnds.{average_ends}
use Rattle.measure_laws.specs.Cases.{least_truth}
use Rattle.measure_laws.specs.Ends.{HasEnds, IsUpperEnd}
use Rattle.measure_laws.specs.Measures.{IsExactMeasure, unit_of}
use Rattle.measure_laws.specs.Shares.{IsModest, biased_ends}
use Rattle.measure_laws.proofs.AverageLeast.{least_lo-modest, upper_end-modest}
use Rattle.measure_laws.proofs.BiasedTopic.{least_lo_modest, upper_end_modest}
use Rattle.measure_laws.proofs.CaseEnds.{named_swapped}
use Rattle.measure_laws.proofs.LeastCases.{least_case_is_least}
use Rattle.measure_laws.proofs.Scores.{score-most, difference_low, difference_high, within_unit}
use Rattle.measure_laws.proofs.Swapping.{case_extremes, swapped_ends}
use Rattle.measure_laws.proofs.Unique.{greatest_unique}
use Rattle.measure_laws.proofs.Weights.{unit-size}
use Rattle.topic_ends.specs.Kinds.{IsKind, name_of}
use Rattle.topic_ends.specs.Least.{IsLeastLow}
use Rattle.topic_ends.specs.declared.kind.Kind.{Kind}
use Rattle.topic_ends.specs.declared.kind.Kind.TheVariants as kind

-- ---- the lower end of the least difference
pub low_is : (m : MeasureName) (marks : List Mark) (a b : List ℕ) (z : ℤ) (e : Ends) → IsLeastLow m marks a b z → HasEnds m marks a b e → z ≡ e.least_lo
low_is (Precision k) marks a b z e h g = greatest_unique _ z e.least_lo h g.least_lo
low_is (Recall k) marks a b z e h g = greatest_unique _ z e.least_lo h g.least_lo
low_is RPrecision marks a b z e h g = greatest_unique _ z e.least_lo h g.least_lo
low_is Reciprocal marks a b z e h g = greatest_unique _ z e.least_lo h g.least_lo
low_is (Biased top bottom) marks a b z e h g = h ∙ ap (λ (x : Ends). x.least_lo) (sym g)
low_is AveragePrecision marks a b z e h g = h ∙ ap (λ (x : Ends). x.least_lo) (sym g)

-- negated it is the upper end of the greatest difference of the swapped rankings
pub most_is : (m : MeasureName) (marks : List Mark) (a b : List ℕ) (z : ℤ) (e : Ends) → IsMeasure m → IsRanking (length marks) a → IsRanking (length marks) b → IsLeastLow m marks a b z → HasEnds m marks b a e → neg_ℤ z ≡ e.most_hi
most_is m marks a b z e valid ra rb h g = ap neg_ℤ (low_is m marks a b z (swapped_ends e) h (named_swapped m marks b a e valid rb ra g)) ∙ neg_twice e.most_hi

-- ---- the ends are there
exact_exist : (m : MeasureName) (marks : List Mark) (a b : List ℕ) → IsMeasure m → IsExactMeasure m → IsRanking (length marks) a → IsRanking (length marks) b → (e : Ends) × AreExtremes m (unit_of m) marks a b e
exact_exist m marks a b valid exact ra rb =
    let n = length marks in
    let truth = least_truth m marks a b in
    let other = least_truth m marks b a in
    let span = difference_span (unit_of m) (score m n truth a []) (score m n truth b []) in
    let swapped = difference_span (unit_of m) (score m n other b []) (score m n other a []) in (
      record { least_lo = span.lo; least_hi = span.hi; most_lo = neg_ℤ swapped.hi; most_hi = neg_ℤ swapped.lo },
      case_extremes m (unit_of m) marks a b truth other span.lo span.hi swapped.lo swapped.hi (least_case_is_least m marks a b valid exact ra rb) (least_case_is_least m marks b a valid exact rb ra)
          (difference_floor (unit_of m) (score m n truth a []) (score m n truth b []) (score-den m n truth a []) (score-den m n truth b []))
          (difference_ceiling (unit_of m) (score m n truth a []) (score m n truth b []) (score-den m n truth a []) (score-den m n truth b []))
          (difference_floor (unit_of m) (score m n other b []) (score m n other a []) (score-den m n other b []) (score-den m n other a []))
          (difference_ceiling (unit_of m) (score m n other b []) (score m n other a []) (score-den m n other b []) (score-den m n other a [])),
    )

pub ends_exist : (m : MeasureName) (marks : List Mark) (a b : List ℕ) → IsMeasure m → IsRanking (length marks) a → IsRanking (length marks) b → (e : Ends) × HasEnds m marks a b e
ends_exist (Precision k) marks a b valid ra rb = exact_exist (Precision k) marks a b valid tt ra rb
ends_exist (Recall k) marks a b valid ra rb = exact_exist (Recall k) marks a b valid tt ra rb
ends_exist RPrecision marks a b valid ra rb = exact_exist RPrecision marks a b valid tt ra rb
ends_exist Reciprocal marks a b valid ra rb = exact_exist Reciprocal marks a b valid tt ra rb
ends_exist (Biased top bottom) marks a b valid ra rb = (biased_ends top bottom marks a b, refl)
ends_exist AveragePrecision marks a b valid ra rb = (average_ends marks a b, refl)

-- ---- sizes
exact_low_modest : (m : MeasureName) (marks : List Mark) (a b : List ℕ) (z : ℤ) → IsMeasure m → IsExactMeasure m → IsRanking (length marks) a → IsRanking (length marks) b → IsGreatest (λ w. InEvery m marks a b (IsAtMost w (unit_of m))) z → IsModest z
exact_low_modest m marks a b z valid exact ra rb h =
    let n = length marks in
    let truth = with_picked marks (λ _. false) in
    let there = h.so truth [] [] (with_picked-Completes marks (λ _. false)) in
    within_unit z (unit_of m) (unit-size m valid).1 (h.others (neg_ℤ (pos (unit_of m))) (λ t ta tb _. difference_low (unit_of m) (score m n t a ta) (score m n t b tb) (score-most m n t b tb exact rb)))
    (at_most_least z (pos (unit_of m)) (unit_of m) (score m n truth a []) (score m n truth b []) (score-den m n truth a []) (score-den m n truth b []) there (difference_high (unit_of m) (score m n truth a []) (score m n truth b []) (score-most m n truth a [] exact ra)))

pub low_modest : (m : MeasureName) (marks : List Mark) (a b : List ℕ) (z : ℤ) → IsMeasure m → IsRanking (length marks) a → IsRanking (length marks) b → IsLeastLow m marks a b z → IsModest z
low_modest (Precision k) marks a b z valid ra rb h = exact_low_modest (Precision k) marks a b z valid tt ra rb h
low_modest (Recall k) marks a b z valid ra rb h = exact_low_modest (Recall k) marks a b z valid tt ra rb h
low_modest RPrecision marks a b z valid ra rb h = exact_low_modest RPrecision marks a b z valid tt ra rb h
low_modest Reciprocal marks a b z valid ra rb h = exact_low_modest Reciprocal marks a b z valid tt ra rb h
low_modest (Biased top bottom) marks a b z valid ra rb h = subst IsModest (sym h) (least_lo_modest top bottom marks a b (omega (arith, valid.below_one)) (omega (arith, valid.below_one)) ra rb)
low_modest AveragePrecision marks a b z valid ra rb h = subst IsModest (sym h) (least_lo-modest marks a b ra rb)

exact_upper_modest : (m : MeasureName) (n : ℕ) (truth : ℕ → Bool) (a b : List ℕ) (z : ℤ) → IsMeasure m → IsExactMeasure m → IsRanking n a → IsRanking n b → IsSmallest (λ w. IsAtLeast w (unit_of m) (score m n truth a []) (score m n truth b [])) z → IsModest z
exact_upper_modest m n truth a b z valid exact ra rb h =
    let x = score m n truth a [] in
    let y = score m n truth b [] in
    within_unit z (unit_of m) (unit-size m valid).1 (at_most_least (neg_ℤ (pos (unit_of m))) z (unit_of m) x y (score-den m n truth a []) (score-den m n truth b []) (difference_low (unit_of m) x y (score-most m n truth b [] exact rb)) h.so)
    (h.others (pos (unit_of m)) (difference_high (unit_of m) x y (score-most m n truth a [] exact ra)))

pub upper_modest : (m : MeasureName) (n : ℕ) (truth : ℕ → Bool) (a b : List ℕ) (z : ℤ) → IsMeasure m → IsRanking n a → IsRanking n b → IsUpperEnd m n truth a b z → IsModest z
upper_modest (Precision k) n truth a b z valid ra rb h = exact_upper_modest (Precision k) n truth a b z valid tt ra rb h
upper_modest (Recall k) n truth a b z valid ra rb h = exact_upper_modest (Recall k) n truth a b z valid tt ra rb h
upper_modest RPrecision n truth a b z valid ra rb h = exact_upper_modest RPrecision n truth a b z valid tt ra rb h
upper_modest Reciprocal n truth a b z valid ra rb h = exact_upper_modest Reciprocal n truth a b z valid tt ra rb h
upper_modest (Biased top bottom) n truth a b z valid ra rb h = subst IsModest (sym h) (upper_end_modest top bottom n truth a b (omega (arith, valid.below_one)) (omega (arith, valid.below_one)) ra rb)
upper_modest AveragePrecision n truth a b z valid ra rb h = subst IsModest (sym h) (upper_end-modest n truth a b ra rb)

-- ---- what the ends are computed from
pub kind_measure : (k : Kind) → IsKind k → IsMeasure (name_of k)
kind_measure (kind.Precision k) h = h
kind_measure (kind.Recall k) h = h
kind_measure kind.RPrecision h = tt
kind_measure kind.Reciprocal h = tt
kind_measure (kind.Biased powers) h = h.persistence
kind_measure kind.AveragePrecision h = tt
