-- The two ends of a least or greatest difference are near to each other.
use Rattle.std.proofs.Common.{◌≡◌, ◌⊎◌, ℕ, ◌+◌, ◌*◌, ◌<◌, List, [], length, ℤ, pos, negsuc, neg_ℤ, ◌+ℤ◌, ◌*ℤ◌, ◌≤ℤ◌, arith, inl, inr, subst, sym, ap, ◌∙◌}
use Rattle.std.proofs.lemmas.Int.{ints}
use Rattle.std.proofs.lemmas.Bool.{cases_lt}
use Rattle.desk_model.specs.Fraction.{Fraction}
use Rattle.desk_model.specs.Score.{score}
use Rattle.desk_model.specs.Extremes.{Ends, AreExtremes}
use Rattle.desk_model.specs.declared.types.Mark.{Mark}
use Rattle.desk_model.specs.declared.types.MeasureName.{MeasureName}
use Rattle.desk_model.specs.declared.types.MeasureName.TheVariants.{Precision, Recall, RPrecision, Reciprocal, Biased, AveragePrecision}
use Rattle.desk_model.proofs.Topics.{score-den}
use Rattle.desk_model.specs.MeasureText.{IsMeasure}
use Rattle.measure_laws.specs.Measures.{IsExactMeasure, unit_of}
use Rattle.measure_laws.specs.Cases.{least_truth}
use Rattle.measure_laws.specs.Shares.{AreNear, biased_least_lo, biased_least_hi, biased_ends}
use Rattle.measure_laws.proofs.Unique.{extremes_unique, precision_ends_are}
use Rattle.measure_laws.proofs.Persistence.{ends_near}
use Rattle.topic_counts.specs.Ends.{IsFloor, IsCeiling}
use Rattle.topic_counts.specs.Numbers.{scaled_difference, difference_span}
use Rattle.topic_counts.proofs.Spans.{difference_floor, difference_ceiling}
use Rattle.measure_core.specs.Laws.{AreMet}
use Rattle.measure_laws.specs.Ends.{HasEnds}
use Rattle.measure_core.specs.Made.{ends_of, AreNarrow, HasWidth}
use Rattle.measure_core.specs.Numbers.{exact_least, exact_cell}
use Rattle.measure_core.proofs.Exact.{extremes}

either : (z w : ℤ) → (z ≤ℤ w) ⊎ (w ≤ℤ z)
either (pos m) (pos n) = elim (cases_lt m n) [ inl less ↦ inl (omega (arith, ints)) | inr more ↦ inr (omega (arith, ints)) ]
either (pos m) (negsuc n) = inr (omega (arith, ints))
either (negsuc m) (pos n) = inl (omega (arith, ints))
either (negsuc m) (negsuc n) = elim (cases_lt m n) [ inl less ↦ inr (omega (arith, ints)) | inr more ↦ inl (omega (arith, ints)) ]

no_more : (z : ℤ) → (z +ℤ pos 1) ≤ℤ z → ⊥
no_more z h = omega (arith, ints)

-- a ceiling is at most one more than the floor
pub ceiling_near : (n d lo hi : ℤ) → IsFloor n d lo → IsCeiling n d hi → hi ≤ℤ (lo +ℤ pos 1)
ceiling_near n d lo hi floor ceiling = elim (either ((lo +ℤ pos 1) *ℤ d) n) [
  | inl below ↦ absurd (no_more lo (floor.others (lo +ℤ pos 1) below))
  | inr above ↦ ceiling.others (lo +ℤ pos 1) above
]

difference_near : (u : ℕ) (x y : Fraction) → 0 < x.den → 0 < y.den → (difference_span u x y).hi ≤ℤ ((difference_span u x y).lo +ℤ pos 1)
difference_near u x y p q = ceiling_near (scaled_difference u x y) (pos (x.den * y.den)) (difference_span u x y).lo (difference_span u x y).hi (difference_floor u x y p q) (difference_ceiling u x y p q)

exact_near : (m : MeasureName) (marks : List Mark) (a b : List ℕ) → (exact_least m marks a b).hi ≤ℤ ((exact_least m marks a b).lo +ℤ pos 1)
unfolding exact_least
exact_near m marks a b =
    let truth = least_truth m marks a b in
    let n = length marks in
    difference_near (unit_of m) (score m n truth a []) (score m n truth b []) (score-den m n truth a []) (score-den m n truth b [])

swapped_near : (n : ℕ) (lo hi : ℤ) → hi ≤ℤ (lo +ℤ pos n) → neg_ℤ lo ≤ℤ (neg_ℤ hi +ℤ pos n)
swapped_near n lo hi h = omega (arith, ints)

-- the ends of every exact measure
exact_narrow : (m : MeasureName) (marks : List Mark) (a b : List ℕ) (e : Ends) → IsMeasure m → IsExactMeasure m → AreMet marks a b → AreExtremes m (unit_of m) marks a b e →
    (e.least_hi ≤ℤ (e.least_lo +ℤ pos 1)) × (e.most_hi ≤ℤ (e.most_lo +ℤ pos 1))
exact_narrow m marks a b e valid exact met h =
    let same = extremes_unique m (unit_of m) marks a b (ends_of (exact_cell m marks a b)) e (extremes m marks a b valid exact met.first met.second) h in
    let other = exact_least m marks b a in
    subst (λ (f : Ends). (f.least_hi ≤ℤ (f.least_lo +ℤ pos 1)) × (f.most_hi ≤ℤ (f.most_lo +ℤ pos 1))) same
    (exact_near m marks a b, swapped_near 1 other.lo other.hi (exact_near m marks b a))

swapped : (a b : List ℕ) (lo hi : ℤ) → AreNear b a lo hi → AreNear a b lo hi
swapped a b lo hi h =
    let swap : length b + length a + 1 ≡ length a + length b + 1 = omega arith in
    subst (λ (n : ℕ). hi ≤ℤ (lo +ℤ pos (8 * (n * n)))) swap h

biased_narrow : (top bottom : ℕ) (marks : List Mark) (a b : List ℕ) → IsMeasure (Biased top bottom) → AreMet marks a b → AreNarrow (Biased top bottom) a b (biased_ends top bottom marks a b)
biased_narrow top bottom marks a b valid met = record {
  least = ends_near top bottom marks a b valid met.first met.second;
  most = swapped_near (8 * ((length a + length b + 1) * (length a + length b + 1))) (biased_least_lo top bottom marks b a) (biased_least_hi top bottom marks b a)
      (swapped a b (biased_least_lo top bottom marks b a) (biased_least_hi top bottom marks b a) (ends_near top bottom marks b a valid met.second met.first));
}

pub ends_narrow : (m : MeasureName) (marks : List Mark) (a b : List ℕ) (e : Ends) → IsMeasure m → HasWidth m → AreMet marks a b → HasEnds m marks a b e → AreNarrow m a b e
ends_narrow (Precision k) marks a b e valid wide met h = let n = exact_narrow (Precision k) marks a b e valid tt met h in record { least = n.0; most = n.1 }
ends_narrow (Recall k) marks a b e valid wide met h = let n = exact_narrow (Recall k) marks a b e valid tt met h in record { least = n.0; most = n.1 }
ends_narrow RPrecision marks a b e valid wide met h = let n = exact_narrow RPrecision marks a b e valid tt met h in record { least = n.0; most = n.1 }
ends_narrow Reciprocal marks a b e valid wide met h = let n = exact_narrow Reciprocal marks a b e valid tt met h in record { least = n.0; most = n.1 }
ends_narrow (Biased top bottom) marks a b e valid wide met h = subst (AreNarrow (Biased top bottom) a b) (sym h) (biased_narrow top bottom marks a b valid met)
ends_narrow AveragePrecision marks a b e valid wide met h = absurd wide

-- the ends under precision are whole numbers of units
pub precision_whole : (k : ℕ) (marks : List Mark) (a b : List ℕ) (e : Ends) → IsMeasure (Precision k) → AreMet marks a b → HasEnds (Precision k) marks a b e → (e.least_lo ≡ e.least_hi) × (e.most_lo ≡ e.most_hi)
precision_whole k marks a b e valid met h =
    let same = precision_ends_are k marks a b e (omega (arith, valid)) met.first met.second h in (ap (λ (f : Ends). f.least_lo) same ∙ sym (ap (λ (f : Ends). f.least_hi) same), ap (λ (f : Ends). f.most_lo) same ∙ sym (ap (λ (f : Ends). f.most_hi) same))
