use Rattle.std.proofs.Common.{◌≡◌, [], get_or}
use Rattle.next_document.specs.Proposal.{Standing}
use Rattle.next_document.specs.Best.{IsBestBefore}
use Rattle.next_document.specs.Kept.{AreTopicTotals}
use Rattle.next_document.proofs.best_kept.TopicTotals.best_with.Given as goal

abbrev pub invariant-loop-doc : goal.invariant-loop-doc
invariant-loop-doc l = (s : Standing) → get_or s.marks l.self.number [] ≡ l.self.marks.now → AreTopicTotals s l.self.number l.self.totals.now → IsBestBefore s l.self.number 0 l.fn.earlier → IsBestBefore s l.self.number l.doc l.best
