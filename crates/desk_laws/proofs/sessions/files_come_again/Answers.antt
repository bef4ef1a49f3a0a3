use Rattle.desk_laws.proofs.Again.{come_again}
use Rattle.desk_laws.proofs.sessions.files_come_again.Goals as goal

pub returns : goal.returns
returns c = come_again
