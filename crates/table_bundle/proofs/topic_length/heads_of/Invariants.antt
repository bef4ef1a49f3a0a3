use Rattle.std.proofs.Common.{◌≡◌, ◌*◌, ◌≤◌, take}
use Rattle.std.specs.List.{sum_by}
use Rattle.table_bundle.specs.Lengths.{sizes_length}
use Rattle.table_bundle.proofs.topic_length.heads_of.Given as goal

abbrev pub invariant-loop-both : goal.invariant-loop-both
invariant-loop-both l = record {
  bytes : l.bytes ≡ sum_by sizes_length (take l.both-index l.sizes);
  few : l.bytes ≤ 100 * l.both-index;
}
