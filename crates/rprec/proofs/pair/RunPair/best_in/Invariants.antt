use Rattle.std.proofs.Common.{◌≡◌, ◌+◌}
use Rattle.rprec.specs.Packed.{packed_of}
use Rattle.rprec.specs.Search.{IsBestOf}
use Rattle.rprec.specs.Sums.{choice_at, prefixes}
use Rattle.rprec.proofs.pair.RunPair.best_in.Given as goal

abbrev pub invariant-loop-place : goal.invariant-loop-place
invariant-loop-place l = record {
  packed : l.packed ≡ packed_of (prefixes l.self (l.self.all.relevant + l.place));
  best : IsBestOf (choice_at l.self) l.chosen l.place l.fn.earlier.candidate l.best.candidate;
}
