use Rattle.desk_laws.proofs.Averages as lemmas
use Rattle.desk_laws.proofs.cases.averages_of_a_pair.Goals as goal

pub returns-clause-ends : goal.returns-clause-ends
returns-clause-ends c = lemmas.ends_of_a_pair

pub returns-clause-least : goal.returns-clause-least
returns-clause-least c = lemmas.least_case_of_a_pair

pub returns-clause-most : goal.returns-clause-most
returns-clause-most c = lemmas.most_case_of_a_pair
