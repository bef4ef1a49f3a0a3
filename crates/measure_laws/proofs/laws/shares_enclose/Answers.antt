use Rattle.measure_laws.proofs.Persistence.{least_encloses, most_encloses, least_case_below}
use Rattle.measure_laws.proofs.laws.shares_enclose.Goals as goal

pub returns-clause-low : goal.returns-clause-low
returns-clause-low c = least_encloses

pub returns-clause-high : goal.returns-clause-high
returns-clause-high c = most_encloses

pub returns-clause-case : goal.returns-clause-case
returns-clause-case c = least_case_below
