use Rattle.std.proofs.Common.{◌≡◌, ℕ, ◌<◌, length, get_or}
use Rattle.measure_core.specs.Pairs.{ranking_on, runs_on}
use Rattle.measure_core.specs.declared.room.RunSums.{RunSums}
use Rattle.rprec.specs.Sums.{AreBlockSums}
use Rattle.rprec.proofs.pair_lists.sums_of_runs.Given as goal

abbrev pub invariant-loop-run : goal.invariant-loop-run
invariant-loop-run l = record {
  size : length l.sums.items ≡ runs_on l.on.rankings.now;
  each : (run : ℕ) → run < l.run → (none : RunSums) → AreBlockSums l.on.marks.now (ranking_on l.on.rankings.now run) (get_or l.sums.items run none).numbers;
}
