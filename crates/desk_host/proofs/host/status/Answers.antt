use Rattle.std.proofs.Common.{sym}
use Rattle.desk_host.proofs.host.status.Goals as goal

pub returns-in-Ok-clause-ends : goal.returns-in-Ok-clause-ends
returns-in-Ok-clause-ends c = rw (c.in-Ok.is, sym c.deref.ensures.value) c.run.ensures.ends
