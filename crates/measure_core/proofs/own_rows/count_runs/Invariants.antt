use Rattle.std.proofs.Common.{ℕ, ◌<◌, get_or}
use Rattle.measure_core.specs.Pairs.{ranking_on}
use Rattle.topic_counts.specs.Seen.{ArePrefix}
use Rattle.topic_counts.specs.declared.counts.Counts.{Counts}
use Rattle.measure_core.proofs.own_rows.count_runs.Given as goal

abbrev pub invariant-loop-run : goal.invariant-loop-run
invariant-loop-run l = (run : ℕ) (none : Counts) → run < l.run → ArePrefix l.k l.on.marks.now (ranking_on l.on.rankings.now run) (get_or l.counts run none)
