-- Laws of a measure that follow from its others: the upper ends and the most case, by the swapped runs.
use Rattle.std.proofs.Common.{◌≡◌, ℕ, Bool, List, ℤ, neg_ℤ, subst, arith}
use Rattle.std.proofs.lemmas.Int.{ints}
use Rattle.desk_model.specs.Fraction.{IsAtMost, IsAtLeast}
use Rattle.desk_model.specs.Extremes.{InEvery}
use Rattle.desk_model.specs.declared.types.Mark.{Mark}
use Rattle.desk_model.specs.declared.types.MeasureName.{MeasureName}
use Rattle.desk_model.specs.MeasureText.{IsMeasure}
use Rattle.measure_laws.specs.Measures.{unit_of}
use Rattle.measure_laws.specs.Cases.{least_truth}
use Rattle.small_lemmas.proofs.Numbers.{neg_twice}
use Rattle.measure_laws.proofs.Swapping.{at_most_swapped, at_least_swapped, every_swapped}
use Rattle.measure_laws.proofs.LeastCases.{least_truth-Completes}
use Rattle.measure_laws.proofs.Weights.{unit-size, weight-most, weight-even}
use Rattle.topic_counts.specs.declared.span.Span.{Span}
use Rattle.topic_counts.specs.Numbers.{negated}
use Rattle.topic_counts.proofs.Spans.{span_same}
use Rattle.measure_core.specs.declared.cell.Cell.{Cell}
use Rattle.measure_core.specs.Laws.{AreMet, Encloses, LiesIn, LeastCaseLiesIn, MostCaseLiesIn, swapped_cell, SpanIsModest, CellIsModest, MeetsLaws, OwesLaws}

pub swapped_met : (marks : List Mark) (a b : List ℕ) → AreMet marks a b → AreMet marks b a
swapped_met marks a b met = record { first = met.second; second = met.first; small = met.small }

pub negated_twice : (s : Span) → negated (negated s) ≡ s
negated_twice s = span_same (neg_ℤ (neg_ℤ s.lo)) s.lo (neg_ℤ (neg_ℤ s.hi)) s.hi (neg_twice s.lo) (neg_twice s.hi)

-- a difference seen the other way round
lies_swapped : (m : MeasureName) (marks : List Mark) (a b : List ℕ) (truth : ℕ → Bool) (tail_a tail_b : List Bool) (s : Span) → LiesIn m marks b a truth tail_b tail_a s → LiesIn m marks a b truth tail_a tail_b (negated s)
lies_swapped m marks a b truth tail_a tail_b s h = record { low = at_least_swapped s.hi (unit_of m) _ _ h.high; high = at_most_swapped s.lo (unit_of m) _ _ h.low }

most_swapped : (m : MeasureName) (marks : List Mark) (a b : List ℕ) (s : Span) → LeastCaseLiesIn m marks b a s → MostCaseLiesIn m marks a b (negated s)
most_swapped m marks a b s h = record {
  completes = h.completes;
  lies = λ tail_a tail_b tails. lies_swapped m marks a b (least_truth m marks b a) tail_a tail_b s (h.lies tail_b tail_a tails);
}

most_from_least : (m : MeasureName) (marks : List Mark) (a b : List ℕ) (here there : Cell) → there ≡ swapped_cell here → LeastCaseLiesIn m marks b a there.least → MostCaseLiesIn m marks a b here.most
most_from_least m marks a b here there e h =
    subst (MostCaseLiesIn m marks a b) (negated_twice here.most)
    (most_swapped m marks a b (negated here.most) (subst (λ (c : Cell). LeastCaseLiesIn m marks b a c.least) e h))

-- the lower end in both orders encloses on both sides
encloses_from_low : (m : MeasureName) (marks : List Mark) (a b : List ℕ) (here there : Cell) → there ≡ swapped_cell here →
    InEvery m marks a b (IsAtMost here.least.lo (unit_of m)) → InEvery m marks b a (IsAtMost there.least.lo (unit_of m)) → Encloses m marks a b here
encloses_from_low m marks a b here there e low other = record {
  least = low;
  most = subst (λ (z : ℤ). InEvery m marks a b (IsAtLeast z (unit_of m))) (neg_twice here.most.hi)
      (every_swapped m (unit_of m) marks a b (neg_ℤ here.most.hi) (subst (λ (c : Cell). InEvery m marks b a (IsAtMost c.least.lo (unit_of m))) e other));
}

pub swapped_modest : (s : Span) → SpanIsModest s → SpanIsModest (negated s)
swapped_modest s h = (omega (arith, ints), omega (arith, ints))

modest_from_least : (here there : Cell) → there ≡ swapped_cell here → SpanIsModest here.least → SpanIsModest there.least → CellIsModest here
modest_from_least here there e h k = record {
  least = h;
  most = subst SpanIsModest (negated_twice here.most) (swapped_modest (negated here.most) (subst (λ (c : Cell). SpanIsModest c.least) e k));
}

-- what a measure owes gives all its laws
pub meets_laws : (m : MeasureName) (cell : List Mark → List ℕ → List ℕ → Cell) (bounds : List Mark → List ℕ → Span) → IsMeasure m → OwesLaws m cell bounds → MeetsLaws m cell bounds
meets_laws m cell bounds valid owed = record {
  encloses = λ marks a b met.
      encloses_from_low m marks a b (cell marks a b) (cell marks b a) (owed.swaps marks a b met) (owed.low marks a b met) (owed.low marks b a (swapped_met marks a b met));
  bounds_enclose = owed.bounds_enclose;
  least_case = least;
  most_case = λ marks a b met. most_from_least m marks a b (cell marks a b) (cell marks b a) (owed.swaps marks a b met) (least marks b a (swapped_met marks a b met));
  swaps = owed.swaps;
  cell_modest = λ marks a b met. modest_from_least (cell marks a b) (cell marks b a) (owed.swaps marks a b met) (owed.modest marks a b met) (owed.modest marks b a (swapped_met marks a b met));
  bounds_modest = owed.bounds_modest;
  unit_size = unit-size m valid;
  weight_size = λ marks a b doc. weight-most m marks a b doc valid;
  weight_even = weight-even m;
}
  where
    least : (marks : List Mark) (a b : List ℕ) → AreMet marks a b → LeastCaseLiesIn m marks a b (cell marks a b).least
    least marks a b met = record {
      completes = least_truth-Completes m marks a b;
      lies = λ tail_a tail_b tails. record {
        low = owed.low marks a b met (least_truth m marks a b) tail_a tail_b (least_truth-Completes m marks a b);
        high = owed.case marks a b tail_a tail_b met tails;
      };
    }
