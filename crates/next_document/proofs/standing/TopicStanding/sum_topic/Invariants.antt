use Rattle.std.proofs.Common.{◌≡◌, ℕ, ◌<◌, [], length, get_or}
use Rattle.next_document.specs.Shown.{shown_at}
use Rattle.next_document.proofs.Pairs.{IsAt}
use Rattle.next_document.proofs.Summing.{total_to}
use Rattle.next_document.proofs.standing.TopicStanding.sum_topic.Given as goal

abbrev pub invariant-loop-verdict : goal.invariant-loop-verdict
invariant-loop-verdict g l = record {
  sums : (doc : ℕ) → doc < length (get_or l.self.standing.on.marks.now l.self.number []) → get_or l.totals doc 0 ≡ total_to (shown_at g.M.Measure.measured l.self) l.self.number doc l.verdict-index;
  at_pair : IsAt (length l.self.standing.on.desk.now.runs) l.verdict-index l.pair;
}
