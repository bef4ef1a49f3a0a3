use Rattle.std.proofs.Common.{◌≡◌, ℕ, ◌<◌, get_or}
use Rattle.measure_core.specs.Pairs.{ranking_on}
use Rattle.measure_core.specs.declared.room.RunSums.{RunSums}
use Rattle.measure_core.specs.declared.room.RunWeights.{RunWeights}
use Rattle.measure_core.proofs.ranked_rows.weigh_runs.Given as goal

abbrev pub invariant-loop-run : goal.invariant-loop-run
invariant-loop-run g l = record {
  weights : (run : ℕ) → run < l.run → (none : RunWeights) → get_or l.weights run none ≡ g.R.RankedMeasure.weights_of l.measure l.on.marks.now (ranking_on l.on.rankings.now run);
  sums : (run : ℕ) → run < l.run → (none : RunSums) → g.R.RankedMeasure.are_sums l.measure l.on.marks.now (ranking_on l.on.rankings.now run) (get_or l.sums run none).numbers;
}
