-- Average precision meets the laws of a measure.
use Rattle.std.proofs.Common.{◌≡◌, ℕ, List, length, arith, refl, ap, sym}
use Rattle.std.proofs.lemmas.Int.{ints}
use Rattle.desk_model.specs.declared.types.Mark.{Mark}
use Rattle.desk_model.specs.declared.types.MeasureName.TheVariants.{AveragePrecision}
use Rattle.measure_laws.specs.AverageEnds.{average_truth}
use Rattle.measure_laws.specs.Candidates.{average_bound_lo, average_bound_hi}
use Rattle.measure_laws.proofs.AverageBounds.{average_at_least, average_at_most, bound_hi-most, bound_hi_greatest, bound_lo-most, bound_lo_least}
use Rattle.measure_laws.proofs.AverageLeast.{least_lo-modest, low_encloses, upper_end-modest, upper_holds}
use Rattle.topic_counts.specs.declared.span.Span.{Span}
use Rattle.topic_counts.specs.Numbers.{negated}
use Rattle.measure_core.specs.Laws.{IsMet, swapped_cell, SpanIsModest, MeetsLaws, OwesLaws}
use Rattle.measure_core.specs.Made.{AreNumbersOfName}
use Rattle.measure_core.proofs.Cells.{cell}
use Rattle.measure_core.proofs.Swapped.{negated_twice, meets_laws}
use Rattle.average_precision.specs.Numbers.{average_least, average_cell, average_bounds}

swaps : (marks : List Mark) (a b : List ℕ) → average_cell marks b a ≡ swapped_cell (average_cell marks a b)
unfolding average_cell
swaps marks a b = ap (λ (s : Span). cell s (negated (average_least marks a b))) (sym (negated_twice (average_least marks b a)))

modest_bounds : (marks : List Mark) (a : List ℕ) → IsMet marks a → SpanIsModest (average_bounds marks a)
unfolding average_bounds
modest_bounds marks a met =
    let low = bound_lo-most marks a met.ranking in
    let high = bound_hi-most marks a met.ranking in
    ((omega (arith, ints), omega (arith, ints, low)), (omega (arith, ints), omega (arith, ints, high)))

owed : OwesLaws AveragePrecision average_cell average_bounds
unfolding average_cell average_bounds
owed = record {
  low = λ marks a b met truth tail_a tail_b c. low_encloses marks a b truth met.first met.second c;
  case = λ marks a b tail_a tail_b met tails. upper_holds (length marks) (average_truth marks a b) a b;
  modest = λ marks a b met. (least_lo-modest marks a b met.first met.second, upper_end-modest (length marks) (average_truth marks a b) a b met.first met.second);
  swaps = λ marks a b met. swaps marks a b;
  bounds_enclose = λ marks a met. record {
    low = λ truth tail c. average_at_most (length marks) truth a (average_bound_lo marks a) (bound_lo_least marks a truth met.ranking c);
    high = λ truth tail c. average_at_least (length marks) truth a (average_bound_hi marks a) (bound_hi_greatest marks a truth met.ranking c);
  };
  bounds_modest = λ marks a met. modest_bounds marks a met;
}

pub laws : MeetsLaws AveragePrecision average_cell average_bounds
laws = meets_laws AveragePrecision average_cell average_bounds tt owed

-- its numbers are the stated ends
pub numbers : AreNumbersOfName AveragePrecision average_cell average_bounds
unfolding average_cell average_bounds
numbers = record { cells = λ marks a b met. refl; ranges = λ marks a met. refl }
