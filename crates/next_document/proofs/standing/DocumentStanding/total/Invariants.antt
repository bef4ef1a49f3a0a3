use Rattle.std.proofs.Common.{◌≡◌, ◌*◌, ◌≤◌, length}
use Rattle.desk_model.specs.Limits.{PARTS_OF_ONE}
use Rattle.next_document.specs.Shown.{shown_at}
use Rattle.next_document.proofs.Pairs.{IsAt}
use Rattle.next_document.proofs.Summing.{total_to}
use Rattle.next_document.proofs.standing.DocumentStanding.total.Given as goal

abbrev pub invariant-loop-verdict : goal.invariant-loop-verdict
invariant-loop-verdict g l = record {
  sum : l.total ≡ total_to (shown_at g.M.Measure.measured l.self.topic) l.self.topic.number l.self.number l.verdict-index;
  size : l.total ≤ l.verdict-index * PARTS_OF_ONE;
  at_pair : IsAt (length l.self.topic.standing.on.desk.now.runs) l.verdict-index l.pair;
}
