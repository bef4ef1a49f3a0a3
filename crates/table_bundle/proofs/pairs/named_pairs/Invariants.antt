use Rattle.std.proofs.Common.{◌≡◌, length, take}
use Rattle.measure_core.proofs.RunPairs.{IsAt}
use Rattle.table_bundle.specs.Drafts.{pairs_in}
use Rattle.table_bundle.proofs.pairs.named_pairs.Given as goal

abbrev pub invariant-loop-pair : goal.invariant-loop-pair
invariant-loop-pair l = record {
  made : l.pairs.items ≡ take l._pair (pairs_in l.order);
  at_pair : IsAt (length l.order) l._pair l.at;
}
