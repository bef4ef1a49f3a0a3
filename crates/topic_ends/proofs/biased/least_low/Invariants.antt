use Rattle.std.proofs.Common.{◌+◌, length}
use Rattle.measure_laws.specs.Shares.{biased_truth, low_share}
use Rattle.topic_ends.proofs.Shares.{AreSummed}
use Rattle.topic_ends.proofs.biased.least_low.Given as goal

abbrev pub invariant-loop-doc : goal.invariant-loop-doc
invariant-loop-doc l = AreSummed (length l.pair.marks.now) (biased_truth l.pair.marks.now l.pair.a.now l.pair.b.now) (low_share l.powers.top l.powers.bottom) l.pair.a.now l.pair.b.now l.first l.second l.sum

abbrev pub decreases-loop-doc : goal.decreases-loop-doc
decreases-loop-doc l = length l.first + length l.second
