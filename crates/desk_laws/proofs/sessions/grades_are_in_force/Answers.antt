use Rattle.desk_laws.proofs.Grading.{grades_of_session}
use Rattle.desk_laws.proofs.sessions.grades_are_in_force.Goals as goal

pub returns : goal.returns
returns c = grades_of_session
