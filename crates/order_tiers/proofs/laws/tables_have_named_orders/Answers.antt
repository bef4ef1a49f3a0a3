use Rattle.order_tiers.proofs.Naming.{named_order}
use Rattle.order_tiers.proofs.laws.tables_have_named_orders.Goals as goal

pub returns : goal.returns
returns c = named_order
