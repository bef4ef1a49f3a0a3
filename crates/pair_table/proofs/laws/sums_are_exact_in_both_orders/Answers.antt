use Rattle.pair_table.proofs.Swapped.{exact_in_both}
use Rattle.pair_table.proofs.laws.sums_are_exact_in_both_orders.Goals as goal

pub returns : goal.returns
returns c = exact_in_both
