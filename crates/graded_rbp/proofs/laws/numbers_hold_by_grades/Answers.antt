use Rattle.graded_rbp.proofs.Desks.{two_runs_hold, runs_hold}
use Rattle.graded_rbp.proofs.laws.numbers_hold_by_grades.Goals as goal

pub returns : goal.returns
returns c = record { pairs = two_runs_hold; runs = runs_hold }
