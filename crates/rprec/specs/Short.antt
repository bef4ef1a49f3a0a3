-- R-precision where no run has more documents than are judged relevant.
use Rattle.std.specs.Prelude.{ℕ, ◌<◌, ◌≤◌, nat_eq, if◌then◌else◌, List, length, take, pos}
use Rattle.desk_model.specs.declared.types.Mark.{Mark}
use Rattle.desk_model.specs.declared.types.MeasureName.TheVariants.{RPrecision}
use Rattle.measure_core.specs.Numbers.{exact_cell}
use Rattle.measure_core.specs.Pairs.{DeskTopic, ranking_on, runs_on}
use Rattle.measure_core.specs.declared.cell.Cell.{Cell}
use Rattle.measure_laws.specs.Classes.{judged_count}

-- no run has more than so many documents on a topic
pub record HasNoLongerRun (most : ℕ) (t : DeskTopic) : Type 0 where
  pub each : (run : ℕ) → run < runs_on t → length (ranking_on t run) ≤ most

-- a cell whose ends are 0
abbrev pub zero_cell : Cell
zero_cell = record { least = record { lo = pos 0; hi = pos 0 }; most = record { lo = pos 0; hi = pos 0 } }

-- the cell of two runs' first k documents on a topic with k documents judged relevant, and 0 on another topic
abbrev pub short_cell : ℕ → List Mark → List ℕ → List ℕ → Cell
short_cell k marks a b = if nat_eq (judged_count marks) k then exact_cell RPrecision marks (take k a) (take k b) else zero_cell
