use Rattle.order_tiers.proofs.Unique.{one_named_order}
use Rattle.order_tiers.proofs.laws.orders_are_one.Goals as goal

pub returns : goal.returns
returns c = one_named_order
