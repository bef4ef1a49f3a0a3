use Rattle.topic_universe.proofs.Topics.{none_in_order}
use Rattle.topic_universe.proofs.ranked_topic.RankedTopic.new.Goals as goal

pub invariant_of-result : goal.invariant_of-result
invariant_of-result c = none_in_order c.new-2.result.rows c.new.result c.new-2.ensures c.new.ensures
