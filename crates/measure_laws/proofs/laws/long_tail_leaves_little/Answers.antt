use Rattle.measure_laws.proofs.Persistence.{tail_little}
use Rattle.measure_laws.proofs.laws.long_tail_leaves_little.Goals as goal

pub returns : goal.returns
returns c = tail_little
