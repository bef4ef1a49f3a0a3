use Rattle.pair_table.proofs.Orders.{pairs_hold, runs_hold}
use Rattle.pair_table.proofs.laws.numbers_hold_in_every_completion.Goals as goal

pub returns-clause-pairs : goal.returns-clause-pairs
returns-clause-pairs c = pairs_hold

pub returns-clause-runs : goal.returns-clause-runs
returns-clause-runs c = runs_hold
