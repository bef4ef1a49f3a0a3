use Rattle.rprec.specs.Search.{IsBestBetween}
use Rattle.rprec.specs.Sums.{choice_at, steps_of}
use Rattle.rprec.proofs.pair.RunPair.guess.Given as goal

abbrev pub invariant-loop-stretch : goal.invariant-loop-stretch
invariant-loop-stretch l = record {
  choice : IsBestBetween (choice_at l.self) 0 (steps_of l.self) l.fn.earlier.candidate l.best.candidate;
}
