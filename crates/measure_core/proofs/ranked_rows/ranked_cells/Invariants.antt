use Rattle.std.proofs.Common.{◌≡◌, ◌+◌, ◌*◌, ◌≤◌, length}
use Rattle.desk_model.specs.Pairs.{pairs_of}
use Rattle.measure_core.specs.Laws.{CellIsModest}
use Rattle.measure_core.specs.Pairs.{ranking_on, run_numbers, runs_on}
use Rattle.measure_core.proofs.Filling.{IsFilled}
use Rattle.measure_core.proofs.RunPairs.{IsAt}
use Rattle.measure_core.specs.Ranks.{AreBitsBefore, AreRanksBefore}
use Rattle.measure_core.proofs.ranked_rows.ranked_cells.Given as goal

abbrev pub invariant-loop-place : goal.invariant-loop-place
invariant-loop-place g l = record {
  filled : IsFilled (λ pair. g.R.RankedMeasure.ranked_cell_of l.measure l.marks (ranking_on l.rankings pair.0) (ranking_on l.rankings pair.1)) CellIsModest (pairs_of (run_numbers (runs_on l.rankings))) l.cells l.place;
  at_pair : IsAt (runs_on l.rankings) l.place l.at;
  bits_long : length l.marks ≤ 64 * length l.bits;
  ranks_long : length l.marks ≤ length l.ranks;
  bits_before : AreBitsBefore l.marks l.rankings l.at l.bits;
  ranks_before : AreRanksBefore l.rankings l.at l.ranks;
  steps : l.steps ≡ l.initial.steps + l.place;
}
