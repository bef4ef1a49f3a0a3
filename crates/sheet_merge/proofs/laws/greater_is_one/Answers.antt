use Rattle.sheet_merge.proofs.Entries.{greater-order, greater-pairs, greater-itself}
use Rattle.sheet_merge.proofs.laws.greater_is_one.Goals as goal

pub returns-clause-order : goal.returns-clause-order
returns-clause-order c = greater-order

pub returns-clause-pairs : goal.returns-clause-pairs
returns-clause-pairs c = greater-pairs

pub returns-clause-itself : goal.returns-clause-itself
returns-clause-itself c = greater-itself
