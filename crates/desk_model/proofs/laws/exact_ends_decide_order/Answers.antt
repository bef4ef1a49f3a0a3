use Rattle.desk_model.proofs.Exact.{above_exactly, below_exactly, equal_exactly, exact_verdict}
use Rattle.desk_model.proofs.laws.exact_ends_decide_order.Goals as goal

pub returns-clause-above : goal.returns-clause-above
returns-clause-above c = above_exactly

pub returns-clause-below : goal.returns-clause-below
returns-clause-below c = below_exactly

pub returns-clause-equal : goal.returns-clause-equal
returns-clause-equal c = equal_exactly

pub returns-clause-verdict : goal.returns-clause-verdict
returns-clause-verdict c = exact_verdict
