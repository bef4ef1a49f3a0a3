use Rattle.std.proofs.Common.{◌∙◌}
use Rattle.recall.proofs.Leading.{own_listed}
use Rattle.recall.proofs.recall.count_led.Goals as goal

pub leads-requires-clause-own : goal.leads-requires-clause-own
leads-requires-clause-own c = c.requires.own ∙ own_listed c.args.k c.args.ranked.now.marks.now c.args.ranked.now.a.now c.args.ranked.now.b.now
