-- The numbers of a table by the measure's name alone.
use Rattle.std.specs.Prelude.{◌≡◌, ℕ, List, length}
use Rattle.std.specs.List.{AllZip}
use Rattle.desk_model.specs.Desk.{Desk, topics_under}
use Rattle.desk_model.specs.Extremes.{Ends}
use Rattle.desk_model.specs.Order.{Topic}
use Rattle.desk_model.specs.Pairs.{pairs_of}
use Rattle.desk_model.specs.Verdict.{totals_of}
use Rattle.desk_model.specs.declared.types.Mark.{Mark}
use Rattle.desk_model.specs.declared.types.MeasureName.{MeasureName}
use Rattle.desk_model.specs.declared.types.Totals.{Totals}
use Rattle.topic_counts.specs.declared.span.Span.{Span}
use Rattle.measure_core.specs.Made.{ends_of, HasEnds, HasBounds}
use Rattle.measure_core.specs.declared.cell.Cell.{Cell}
use Rattle.pair_table.specs.Sums.{run_numbers, span_sum}

-- which ends two rankings have under marks
abbrev pub HaveEnds : Type 1
HaveEnds = List Mark → List ℕ → List ℕ → Ends → Type 0

-- the ends of a measure's cells
abbrev pub HasCellEnds : (List Mark → List ℕ → List ℕ → Cell) → HaveEnds
HasCellEnds cell marks a b ends = ends ≡ ends_of (cell marks a b)

-- these ends, one for each topic, are those that two runs have
abbrev pub AreEndsBy : HaveEnds → List Topic → ℕ → ℕ → List Ends → Type 0
AreEndsBy Has topics a b ends = AllZip (λ e topic. Has topic.marks (topic.ranking a) (topic.ranking b) e) ends topics

-- these ends are those that the name has
abbrev pub AreEndsOf : MeasureName → List Topic → ℕ → ℕ → List Ends → Type 0
AreEndsOf name = AreEndsBy (HasEnds name)

-- these bounds, one for each topic, are those that the name has for a run
abbrev pub AreBoundsOf : MeasureName → List Topic → ℕ → List Span → Type 0
AreBoundsOf name topics run spans = AllZip (λ s topic. HasBounds name topic.marks (topic.ranking run) s) spans topics

-- the sums of two runs are those of their ends
pub record ArePairSums (Has : HaveEnds) (topics : List Topic) (a b : ℕ) (totals : Totals) : Type 0 where
  pub ends : List Ends
  pub named : AreEndsBy Has topics a b ends
  pub summed : totals ≡ totals_of ends

-- the sums of two runs are those of the name's ends
abbrev pub ArePairNumbers : MeasureName → List Topic → ℕ → ℕ → Totals → Type 0
ArePairNumbers name = ArePairSums (HasEnds name)

-- the sums of a run's bounds are those of the name's bounds
pub record AreRunNumbers (name : MeasureName) (topics : List Topic) (run : ℕ) (bounds : Span) : Type 0 where
  pub spans : List Span
  pub named : AreBoundsOf name topics run spans
  pub summed : bounds ≡ span_sum spans

-- sums for each pair of runs, in pair order, are the name's numbers
abbrev pub AreAllPairNumbers : MeasureName → Desk → List (List Mark) → List Totals → Type 0
AreAllPairNumbers name desk marks totals = AllZip (λ pair sums. ArePairNumbers name (topics_under desk marks) pair.0 pair.1 sums) (pairs_of (run_numbers (length desk.runs))) totals

-- bounds for each run and sums for each pair are the numbers of a name over a desk and its marks
pub record AreNumbersIn (name : MeasureName) (desk : Desk) (marks : List (List Mark)) (bounds : List Span) (totals : List Totals) : Type 0 where
  pub runs : AllZip (λ run span. AreRunNumbers name (topics_under desk marks) run span) (run_numbers (length desk.runs)) bounds
  pub pairs : AreAllPairNumbers name desk marks totals
