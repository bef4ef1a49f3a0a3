use Rattle.desk_laws.proofs.Applying.{applied_twice}
use Rattle.desk_laws.proofs.applied.applying_twice_changes_nothing.Goals as goal

pub returns : goal.returns
returns c = applied_twice c.grades_under_are_grades.ensures c.applying_again_changes_nothing.ensures
