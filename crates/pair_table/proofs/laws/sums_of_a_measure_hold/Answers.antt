use Rattle.pair_table.proofs.Orders.{measure_pairs_hold, measure_runs_hold}
use Rattle.pair_table.proofs.laws.sums_of_a_measure_hold.Goals as goal

pub returns-clause-pairs : goal.returns-clause-pairs
returns-clause-pairs c = measure_pairs_hold

pub returns-clause-runs : goal.returns-clause-runs
returns-clause-runs c = measure_runs_hold
