use Rattle.std.proofs.Common.{sym, subst}
use Rattle.topic_universe.specs.Order.{IsTrecOrder}
use Rattle.topic_universe.proofs.ranked_topic.RankedTopic.of.Goals as goal

pub invariant_of-result : goal.invariant_of-result
invariant_of-result c = subst (λ rows. IsTrecOrder rows c.in_ok-names.names) (sym c.of-scored.ensures) c.in_ok-names.ensures
