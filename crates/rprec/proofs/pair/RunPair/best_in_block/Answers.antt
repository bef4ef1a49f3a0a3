use Rattle.rprec.specs.Sums.{choice_at}
use Rattle.rprec.proofs.Preferred.{best_skip}
use Rattle.rprec.proofs.pair.RunPair.best_in_block.Goals as goal

pub returns-else-may_precede : goal.returns-else-may_precede
returns-else-may_precede c = best_skip (choice_at c.args.self.now) c.args.chosen c.args.next c.args.earlier.candidate (c.may_precede.ensures c.if-may_precede.false)
