use Rattle.pair_table.proofs.Orders.{whole_cells_decide}
use Rattle.pair_table.proofs.laws.whole_cells_decide_exactly.Goals as goal

pub returns : goal.returns
returns c = whole_cells_decide
