use Rattle.std.proofs.Common.{arith}
use Rattle.topic_ends.proofs.CandidateCounts.{count_few}
use Rattle.topic_ends.proofs.average.average_in.Goals as goal

pub quotient-requires-clause-count : goal.quotient-requires-clause-count
quotient-requires-clause-count g c = omega (arith, c.relevant_count.ensures, c.requires.few, count_few (g.T.Relevance.universe c.args.relevant.now) (g.T.Relevance.truth c.args.relevant.now))
