use Rattle.rprec.specs.Sums.{choice_at, steps_of}
use Rattle.rprec.proofs.Preferred.{best_guess}
use Rattle.rprec.proofs.pair.RunPair.best.Goals as goal

pub returns : goal.returns
returns c = best_guess (choice_at c.args.self.now) 0 (steps_of c.args.self.now) c.args.judged.candidate c.guess.result.candidate c.best_in_stretches-best.result.candidate c.guess.ensures c.best_in_stretches-best.ensures
