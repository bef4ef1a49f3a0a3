use Rattle.rprec.proofs.Ranked.{AreSharedTo}
use Rattle.rprec.proofs.shared.share_by_ranks.Given as goal

abbrev pub invariant-loop-place : goal.invariant-loop-place
invariant-loop-place l = AreSharedTo l.place l.marks l.known.a.now l.known.b.now l.counts
