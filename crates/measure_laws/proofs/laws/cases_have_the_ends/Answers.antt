use Rattle.measure_laws.proofs.CaseEnds.{least_case_upper, most_case_lower, upper_agree}
use Rattle.measure_laws.proofs.laws.cases_have_the_ends.Goals as goal

pub returns-clause-least : goal.returns-clause-least
returns-clause-least c = least_case_upper

pub returns-clause-most : goal.returns-clause-most
returns-clause-most c = most_case_lower

pub returns-clause-universe : goal.returns-clause-universe
returns-clause-universe c = upper_agree
