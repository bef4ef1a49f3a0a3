use Rattle.average_precision.specs.Crossed.{AreCrossedTo, place_of}
use Rattle.average_precision.proofs.average_precision.AveragePrecision.cross_run.Given as goal

abbrev pub invariant-loop-other : goal.invariant-loop-other
invariant-loop-other l = AreCrossedTo l.runs.on.marks.now l.runs.on.rankings.now (place_of l.runs.on.rankings.now l.fn.run l.other) l.scores
