use Rattle.pair_table.proofs.Orders.{two_runs_hold, two_runs_exact}
use Rattle.pair_table.proofs.laws.numbers_of_two_runs_hold.Goals as goal

pub returns-clause-sums : goal.returns-clause-sums
returns-clause-sums c = two_runs_hold

pub returns-clause-exact : goal.returns-clause-exact
returns-clause-exact c = two_runs_exact
