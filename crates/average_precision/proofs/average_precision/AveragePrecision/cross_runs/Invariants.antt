use Rattle.std.proofs.Common.{◌≡◌, length}
use Rattle.average_precision.specs.Crossed.{AreCrossedTo, place_of}
use Rattle.average_precision.proofs.average_precision.AveragePrecision.cross_runs.Given as goal

abbrev pub invariant-loop-run : goal.invariant-loop-run
invariant-loop-run l = record {
  long : length l.classes ≡ length l.runs.on.marks.now;
  crossed : AreCrossedTo l.runs.on.marks.now l.runs.on.rankings.now (place_of l.runs.on.rankings.now l.run 0) l.scores;
}
