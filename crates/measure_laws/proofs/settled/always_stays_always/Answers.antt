use Rattle.measure_laws.proofs.Refined.{always_above_stays, always_equal_stays, completion_before}
use Rattle.measure_laws.proofs.settled.always_stays_always.Goals as goal

pub returns-clause-completion : goal.returns-clause-completion
returns-clause-completion c = completion_before

pub returns-clause-above : goal.returns-clause-above
returns-clause-above c = always_above_stays

pub returns-clause-equal : goal.returns-clause-equal
returns-clause-equal c = always_equal_stays
