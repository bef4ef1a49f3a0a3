use Rattle.std.proofs.Common.{arith}
use Rattle.rprec.proofs.Packed.{next_past}
use Rattle.rprec.proofs.prefixes.next_number.Goals as goal

pub returns-else-place-run : goal.returns-else-place-run
returns-else-place-run c = next_past c.args.run.now.marks.now c.args.run.now.docs.now c.args.place (omega (arith, c.if-place-run.false))
