-- Rank-biased precision meets the laws of a measure.
use Rattle.std.proofs.Common.{◌≡◌, ℕ, List, arith, refl, ap, sym}
use Rattle.std.proofs.lemmas.Int.{ints}
use Rattle.desk_model.specs.MeasureText.{IsPersistence}
use Rattle.desk_model.specs.declared.types.Mark.{Mark}
use Rattle.desk_model.specs.declared.types.MeasureName.TheVariants.{Biased}
use Rattle.measure_laws.proofs.Persistence as persistence
use Rattle.topic_counts.specs.declared.span.Span.{Span}
use Rattle.topic_counts.specs.Numbers.{negated}
use Rattle.measure_core.specs.Laws.{IsMet, swapped_cell, SpanIsModest, MeetsLaws, OwesLaws}
use Rattle.measure_core.specs.Made.{AreNumbersOfName}
use Rattle.measure_core.specs.declared.cell.Cell.{Cell}
use Rattle.measure_core.proofs.Swapped.{negated_twice, meets_laws}
use Rattle.rbp.specs.Numbers.{biased_least, biased_cell, biased_bounds}

swaps : (top bottom : ℕ) (marks : List Mark) (a b : List ℕ) → biased_cell top bottom marks b a ≡ swapped_cell (biased_cell top bottom marks a b)
unfolding biased_cell
swaps top bottom marks a b = ap (λ (s : Span). cell s (negated (biased_least top bottom marks a b))) (sym (negated_twice (biased_least top bottom marks b a)))
  where
    cell : Span → Span → Cell
    cell s t = record { least = s; most = t }

modest_bounds : (top bottom : ℕ) (marks : List Mark) (a : List ℕ) → IsPersistence top bottom → IsMet marks a → SpanIsModest (biased_bounds top bottom marks a)
unfolding biased_bounds
modest_bounds top bottom marks a p met =
    let small = persistence.bounds_small top bottom marks a p met.ranking in
    ((omega (arith, ints), omega (arith, ints, small)), (omega (arith, ints), omega (arith, ints, small)))

owed : (top bottom : ℕ) → IsPersistence top bottom → OwesLaws (Biased top bottom) (biased_cell top bottom) (biased_bounds top bottom)
unfolding biased_cell biased_bounds
owed top bottom p = record {
  low = λ marks a b met. persistence.least_encloses top bottom marks a b p met.first met.second;
  case = λ marks a b tail_a tail_b met tails. persistence.least_case_below top bottom marks a b p met.first met.second tail_a tail_b tails;
  modest = λ marks a b met. (persistence.lo_modest top bottom marks a b p met.first met.second, persistence.hi_modest top bottom marks a b p met.first met.second);
  swaps = λ marks a b met. swaps top bottom marks a b;
  bounds_enclose = λ marks a met. record {
    low = persistence.run_low_encloses top bottom marks a p met.ranking;
    high = persistence.run_high_encloses top bottom marks a p met.ranking;
  };
  bounds_modest = λ marks a met. modest_bounds top bottom marks a p met;
}

pub laws : (top bottom : ℕ) → IsPersistence top bottom → MeetsLaws (Biased top bottom) (biased_cell top bottom) (biased_bounds top bottom)
laws top bottom p = meets_laws (Biased top bottom) (biased_cell top bottom) (biased_bounds top bottom) p (owed top bottom p)

-- its numbers are the stated sums
pub numbers : (top bottom : ℕ) → AreNumbersOfName (Biased top bottom) (biased_cell top bottom) (biased_bounds top bottom)
unfolding biased_cell biased_bounds
numbers top bottom = record { cells = λ marks a b met. refl; ranges = λ marks a met. refl }
