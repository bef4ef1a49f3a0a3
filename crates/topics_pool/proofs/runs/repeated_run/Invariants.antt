use Rattle.std.proofs.Common.{◌≡◌, ◌<◌, ℕ, false}
use Rattle.topics_pool.specs.Rows.{run_names, is_repeated}
use Rattle.topics_pool.proofs.runs.repeated_run.Given as goal

abbrev pub invariant-loop-r : goal.invariant-loop-r
invariant-loop-r l = (k : ℕ) → k < l.r → is_repeated (run_names l.runs) k ≡ false
