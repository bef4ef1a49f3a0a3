use Rattle.desk_top.proofs.Calling.{can_end_of}
use Rattle.desk_host.proofs.host.run.Goals as goal

pub returns-clause-ends : goal.returns-clause-ends
returns-clause-ends g c = can_end_of _ _ _ c.run_desk.ensures.ends
