use Rattle.std.proofs.Common.{◌≡◌, ◌+◌}
use Rattle.desk_model.specs.Pairs.{pairs_of}
use Rattle.measure_core.specs.Laws.{CellIsModest}
use Rattle.measure_core.specs.Pairs.{ranking_on, run_numbers, runs_on}
use Rattle.measure_core.proofs.Filling.{IsFilled}
use Rattle.measure_core.proofs.RunPairs.{IsAt}
use Rattle.average_precision.specs.Numbers.{average_cell}
use Rattle.average_precision.proofs.cells.fill_cells.Given as goal

abbrev pub invariant-loop-place : goal.invariant-loop-place
invariant-loop-place g l = record {
  filled : IsFilled (λ pair. average_cell l.runs.kept.on.marks.now (ranking_on l.runs.kept.on.rankings.now pair.0) (ranking_on l.runs.kept.on.rankings.now pair.1)) CellIsModest (pairs_of (run_numbers (runs_on l.runs.kept.on.rankings.now))) l.cells l.place;
  at_pair : IsAt (runs_on l.runs.kept.on.rankings.now) l.place l.at;
  steps : l.steps ≡ l.initial.steps + l.place;
}
