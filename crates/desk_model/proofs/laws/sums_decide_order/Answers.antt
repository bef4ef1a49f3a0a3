use Rattle.desk_model.proofs.Topics.{always_above, always_below, always_equal}
use Rattle.desk_model.proofs.laws.sums_decide_order.Goals as goal

pub returns-clause-above : goal.returns-clause-above
returns-clause-above c = always_above

pub returns-clause-below : goal.returns-clause-below
returns-clause-below c = always_below

pub returns-clause-equal : goal.returns-clause-equal
returns-clause-equal c = always_equal
