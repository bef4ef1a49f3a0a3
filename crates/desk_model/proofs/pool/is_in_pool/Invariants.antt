use Rattle.std.proofs.Common.{◌≡◌, ◌<◌, ℕ, false, take}
use Rattle.desk_model.specs.Desk.{ranking_of}
use Rattle.desk_model.specs.Ranking.{is_in}
use Rattle.desk_model.proofs.pool.is_in_pool.Given as goal

abbrev pub invariant-loop-run : goal.invariant-loop-run
invariant-loop-run l = (k : ℕ) → k < l.run → is_in (take l.depth (ranking_of l.desk k l.topic)) l.doc ≡ false
