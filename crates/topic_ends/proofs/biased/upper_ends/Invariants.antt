use Rattle.std.proofs.Common.{◌+◌, length}
use Rattle.measure_laws.specs.Shares.{high_share}
use Rattle.topic_ends.proofs.Shares.{AreSummed}
use Rattle.topic_ends.proofs.biased.upper_ends.Given as goal

-- both sums are of the documents before those that are left
abbrev pub invariant-loop-doc : goal.invariant-loop-doc
invariant-loop-doc g l = record {
  low : AreSummed (g.T.Relevance.universe l.low) (g.T.Relevance.truth l.low) (high_share l.powers.top l.powers.bottom) l.a l.b l.first l.second l.low_sum;
  high : AreSummed (g.T.Relevance.universe l.high) (g.T.Relevance.truth l.high) (high_share l.powers.top l.powers.bottom) l.b l.a l.second l.first l.high_sum;
}

abbrev pub decreases-loop-doc : goal.decreases-loop-doc
decreases-loop-doc g l = length l.first + length l.second
