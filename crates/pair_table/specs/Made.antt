-- The table of the measure of a name, and its sums alone.
use Rattle.std.specs.Prelude.{List, ℕ}
use Rattle.desk_model.specs.Desk.{Desk}
use Rattle.desk_model.specs.declared.types.Mark.{Mark}
use Rattle.desk_model.specs.declared.types.MeasureName.{MeasureName}
use Rattle.measure_core.specs.Made.{IsMadeFor}
use Rattle.measure_core.specs.declared.cell.Cell.{Cell}
use Rattle.topic_counts.specs.declared.span.Span.{Span}
use Rattle.pair_table.specs.Kept.{HeldSums, Kept, StandsFor, SumsStandFor}

-- a table stands for a desk under marks, with the numbers of the measure of this name
pub record IsTableOf {M : Type 0} (measured : MeasureName) (cell : List Mark → List ℕ → List ℕ → Cell) (bound : List Mark → List ℕ → Span) (name : MeasureName) (desk : Desk) (marks : List (List Mark)) (table : Kept M) : Type 0 where
  pub made : IsMadeFor name measured cell bound
  pub stands : StandsFor cell bound desk marks table

-- sums stand for a desk under marks, with the numbers of the measure of this name
pub record IsSumsOf {M : Type 0} (measured : MeasureName) (cell : List Mark → List ℕ → List ℕ → Cell) (bound : List Mark → List ℕ → Span) (name : MeasureName) (desk : Desk) (marks : List (List Mark)) (sums : HeldSums M) : Type 0 where
  pub made : IsMadeFor name measured cell bound
  pub stands : SumsStandFor cell bound desk marks sums
