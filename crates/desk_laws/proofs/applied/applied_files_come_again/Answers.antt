use Rattle.desk_laws.proofs.Applying.{applied_again}
use Rattle.desk_laws.proofs.applied.applied_files_come_again.Goals as goal

pub returns : goal.returns
returns c = applied_again c.grades_under_are_grades.ensures
