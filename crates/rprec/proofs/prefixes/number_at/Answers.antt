use Rattle.rprec.proofs.Packed.{next_here}
use Rattle.rprec.proofs.prefixes.number_at.Goals as goal

pub returns : goal.returns
returns c = next_here c.args.run.now.marks.now c.args.run.now.docs.now c.args.place c.number_for.result c.requires c.number_for.ensures
