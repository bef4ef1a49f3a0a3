use Rattle.measure_laws.proofs.LeastCases.{least_truth-Completes, least_case_is_least}
use Rattle.measure_laws.proofs.Biased.{least_tails}
use Rattle.measure_laws.proofs.laws.least_case_is_least.Goals as goal

pub returns-clause-completes : goal.returns-clause-completes
returns-clause-completes c = least_truth-Completes

pub returns-clause-tails : goal.returns-clause-tails
returns-clause-tails c = least_tails

pub returns-clause-least : goal.returns-clause-least
returns-clause-least c = least_case_is_least
