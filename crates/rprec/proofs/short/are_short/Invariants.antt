use Rattle.std.proofs.Common.{ℕ, ◌<◌, ◌≤◌, length}
use Rattle.measure_core.specs.Pairs.{ranking_on}
use Rattle.rprec.proofs.short.are_short.Given as goal

-- none of the runs so far is longer
abbrev pub invariant-loop-run : goal.invariant-loop-run
invariant-loop-run l = record { short : (run : ℕ) → run < l.run → length (ranking_on l.rankings run) ≤ l.most }
