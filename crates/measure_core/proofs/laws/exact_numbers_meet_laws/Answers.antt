use Rattle.measure_core.proofs.Exact.{exact_laws, exact_numbers}
use Rattle.measure_core.proofs.laws.exact_numbers_meet_laws.Goals as goal

pub returns-clause-laws : goal.returns-clause-laws
returns-clause-laws c = exact_laws

pub returns-clause-numbers : goal.returns-clause-numbers
returns-clause-numbers c = exact_numbers
