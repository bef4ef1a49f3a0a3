use Rattle.std.specs.Prelude.{◌≡◌, ◌+◌}
use Rattle.rprec.specs.Packed.{packed_of}
use Rattle.rprec.specs.Search.{IsBestOf}
use Rattle.rprec.specs.Sums.{choice_at, prefixes, swapped_pair}
use Rattle.rprec.proofs.pair.RunPair.best_of_both.Given as goal

abbrev pub invariant-loop-place : goal.invariant-loop-place
invariant-loop-place l = record {
  packed : l.packed ≡ packed_of (prefixes l.self (l.self.all.relevant + l.place));
  least : IsBestOf (choice_at l.self) 0 l.place l.fn.earlier.least.candidate l.least.candidate;
  most : IsBestOf (choice_at (swapped_pair l.self)) 0 l.place l.fn.earlier.most.candidate l.most.candidate;
}
