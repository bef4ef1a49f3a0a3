use Rattle.std.proofs.Common.{◌-◌, ◌≤◌}
use Rattle.rprec.specs.Search.{IsBestOf}
use Rattle.rprec.specs.Sums.{choice_at}
use Rattle.rprec.proofs.pair.RunPair.best_in_stretches.Given as goal

abbrev pub invariant-loop-chosen : goal.invariant-loop-chosen
invariant-loop-chosen l = record {
  within : l.chosen ≤ l.steps;
  best : IsBestOf (choice_at l.self) 0 l.chosen l.fn.earlier.candidate l.best.candidate;
}

abbrev pub decreases-loop-chosen : goal.decreases-loop-chosen
decreases-loop-chosen l = l.steps - l.chosen
