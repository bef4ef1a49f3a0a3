use Rattle.graded_rbp.proofs.Example.{totals_are, first_is, second_is}
use Rattle.graded_rbp.proofs.laws.numbers_of_two_grades.Goals as goal

pub returns : goal.returns
returns c = record { totals = totals_are; first = first_is; second = second_is }
