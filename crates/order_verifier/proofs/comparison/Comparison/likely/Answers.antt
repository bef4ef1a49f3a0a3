use Rattle.order_verifier.proofs.Topics.{topic_inside}
use Rattle.order_verifier.proofs.comparison.Comparison.likely.Goals as goal

pub ranking-requires-clause-topic : goal.ranking-requires-clause-topic
ranking-requires-clause-topic c = topic_inside _ _ c.self.view_is c.self.invariant.0.known c.args.topic c.requires
