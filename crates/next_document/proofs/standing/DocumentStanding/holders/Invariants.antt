use Rattle.std.proofs.Common.{◌≡◌, ℕ, ◌<◌, false, get_or, length}
use Rattle.std.specs.Prelude.{is_some}
use Rattle.desk_model.specs.Desk.{ranking_of}
use Rattle.desk_model.specs.Ranking.{rank}
use Rattle.next_document.proofs.standing.DocumentStanding.holders.Given as goal

abbrev pub invariant-loop-run : goal.invariant-loop-run
invariant-loop-run g l = record {
  size : length l.holders ≡ 256;
  each : (k : ℕ) → k < l.run → get_or l.holders k false ≡ is_some (rank (ranking_of l.self.topic.standing.on.desk.now k l.self.topic.number) l.self.number);
}
