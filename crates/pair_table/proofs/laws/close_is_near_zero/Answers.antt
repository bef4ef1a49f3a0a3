use Rattle.pair_table.proofs.Orders.{pairs_close, pairs_close_exact}
use Rattle.pair_table.proofs.laws.close_is_near_zero.Goals as goal

pub returns-clause-near : goal.returns-clause-near
returns-clause-near c = pairs_close

pub returns-clause-exact : goal.returns-clause-exact
returns-clause-exact c = pairs_close_exact
