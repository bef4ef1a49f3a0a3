use Rattle.pair_table.proofs.Orders.{pairs_exact}
use Rattle.pair_table.proofs.laws.precision_is_exact.Goals as goal

pub returns : goal.returns
returns c = pairs_exact
