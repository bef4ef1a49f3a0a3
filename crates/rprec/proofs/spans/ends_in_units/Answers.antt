use Rattle.std.proofs.Common.{arith}
use Rattle.std.proofs.lemmas.Int.{ints}
use Rattle.rprec.proofs.Units.{ceiling_read, floor_read}
use Rattle.rprec.proofs.spans.ends_in_units.Goals as goal

pub returns-clause-floor : goal.returns-clause-floor
returns-clause-floor c = floor_read c.args.count c.args.out_of c.from-parts.result c.from.result c.from-2.result _ c.requires.some c.from-parts.ensures c.from.ensures c.from-2.ensures (omega (arith, ints, c.from-4.ensures))

pub returns-clause-ceiling : goal.returns-clause-ceiling
returns-clause-ceiling c = ceiling_read c.args.count c.args.out_of c.from-parts.result c.from.result c.from-2.result c.from-3.result _ c.requires.some c.from-parts.ensures c.from.ensures c.from-2.ensures c.from-3.ensures (omega (arith, ints, c.from-5.ensures))
