use Rattle.topic_universe.proofs.Unique.{one_order}
use Rattle.topic_universe.proofs.ranked.order_is_one.Goals as goal

pub returns : goal.returns
returns c = one_order
