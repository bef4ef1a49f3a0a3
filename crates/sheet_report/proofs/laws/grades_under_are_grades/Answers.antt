use Rattle.sheet_report.proofs.Under.{grades_are}
use Rattle.sheet_report.proofs.laws.grades_under_are_grades.Goals as goal

pub returns : goal.returns
returns c = grades_are
