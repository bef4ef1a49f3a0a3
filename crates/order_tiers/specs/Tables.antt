-- What is kept while a table is put in order.
use Rattle.std.specs.Prelude.{◌≡◌, ◌↔◌, ℕ, Bool, true, List, length, All, AllPairs}
use Rattle.desk_model.specs.Desk.{Desk, IsDesk, AreMarksOf}
use Rattle.desk_model.specs.MeasureText.{IsMeasure}
use Rattle.desk_model.specs.declared.types.Mark.{Mark}
use Rattle.desk_model.specs.declared.types.MeasureName.{MeasureName}
use Rattle.topic_counts.specs.declared.span.Span.{Span}
use Rattle.measure_core.specs.declared.cell.Cell.{Cell}
use Rattle.pair_table.specs.Kept.{Kept, StandsFor}
use Rattle.pair_table.specs.Numbers.{HaveEnds}
use Rattle.order_tiers.specs.Order.{ComparedRuns, AreEarlier, IsCertifiedIn, IsCover, IsEarlierCover, HasCoverOf}
use Rattle.order_tiers.specs.Rows.{has, is_above, AboveBy, IsSquare, IsStrictOrder}
use Rattle.order_tiers.specs.Tiers.{IsCovering}
use Rattle.order_tiers.specs.declared.cover.Cover.{Cover}

-- a table of a measure stands for a desk under marks
pub record IsTableFor {M : Type 0} (measured : MeasureName) (cell : List Mark → List ℕ → List ℕ → Cell) (bounds : List Mark → List ℕ → Span) (desk : Desk) (marks : List (List Mark)) (table : Kept M) : Type 0 where
  pub valid : IsDesk desk
  pub known : AreMarksOf desk marks
  pub named : IsMeasure measured
  pub stands : StandsFor cell bounds desk marks table

-- a row has the runs that are below a run below the first one
pub record IsBelowBelow (rows : List (List Bool)) (first : ℕ) (row : List Bool) : Type 0 where
  pub long : length row ≡ length rows
  pub each : (b : ℕ) → (has row b ≡ true) ↔ ((c : ℕ) × AboveBy rows first c × AboveBy rows c b)

-- rows are those of the chains of compared runs, and of a strict order
pub record AreChainRows (t : ComparedRuns) (rows : List (List Bool)) : Type 0 where
  pub square : IsSquare t.runs rows
  pub certified : (a b : ℕ) → (is_above rows a b ≡ true) ↔ IsCertifiedIn t a b
  pub strict : IsStrictOrder rows

-- all covering pairs before two runs and no others, ascending
pub record HaveCoversBefore (Over : ℕ → ℕ → Type 0) (Has : HaveEnds) (t : ComparedRuns) (covers : List Cover) (first second : ℕ) : Type 0 where
  pub ascending : AllPairs IsEarlierCover covers
  pub each : All (IsCover Over Has t) covers
  pub before : All (λ (c : Cover). AreEarlier c.first c.second first second) covers
  pub every : (a b : ℕ) → IsCovering Over t.runs a b → AreEarlier a b first second → HasCoverOf covers a b
