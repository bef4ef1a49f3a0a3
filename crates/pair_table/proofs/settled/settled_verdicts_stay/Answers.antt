use Rattle.pair_table.proofs.Refining.{above_stays, below_stays, equal_stays}
use Rattle.pair_table.proofs.settled.settled_verdicts_stay.Goals as goal

pub returns-clause-above : goal.returns-clause-above
returns-clause-above c = above_stays

pub returns-clause-below : goal.returns-clause-below
returns-clause-below c = below_stays

pub returns-clause-equal : goal.returns-clause-equal
returns-clause-equal c = equal_stays
