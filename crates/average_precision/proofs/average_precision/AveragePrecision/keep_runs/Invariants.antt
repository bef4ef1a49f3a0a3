use Rattle.std.proofs.Common.{◌≡◌, ℕ, ◌<◌, length, get_or}
use Rattle.measure_core.specs.Pairs.{ranking_on}
use Rattle.measure_core.specs.declared.room.RunCandidates.{RunCandidates}
use Rattle.average_precision.specs.Rooms.{IsKept}
use Rattle.average_precision.proofs.average_precision.AveragePrecision.keep_runs.Given as goal

abbrev pub invariant-loop-run : goal.invariant-loop-run
invariant-loop-run l = record {
  long : length l.classes ≡ length l.on.marks.now;
  kept : (run : ℕ) → run < l.run → (none : RunCandidates) → IsKept l.on.marks.now (ranking_on l.on.rankings.now run) (get_or l.kept run none);
}
