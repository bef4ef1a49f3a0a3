use Rattle.std.proofs.Common.{◌-◌, ◌≤◌}
use Rattle.rprec.specs.Search.{IsBestOf}
use Rattle.rprec.specs.Sums.{choice_at}
use Rattle.rprec.proofs.pair.RunPair.best_in_blocks.Given as goal

abbrev pub invariant-loop-chosen : goal.invariant-loop-chosen
invariant-loop-chosen l = record {
  order : l.start ≤ l.chosen;
  within : l.chosen ≤ l.end;
  best : IsBestOf (choice_at l.self) l.start l.chosen l.fn.earlier.candidate l.best.candidate;
}

abbrev pub decreases-loop-chosen : goal.decreases-loop-chosen
decreases-loop-chosen l = l.end - l.chosen
