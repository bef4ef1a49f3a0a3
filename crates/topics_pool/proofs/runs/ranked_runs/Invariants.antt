use Rattle.std.proofs.Common.{◌≡◌, ◌++◌, length}
use Rattle.std.specs.Vec.Iter.{into_iter_items, into_iter_len}
use Rattle.topics_pool.proofs.runs.ranked_runs.Given as goal

abbrev pub invariant-loop-run : goal.invariant-loop-run
invariant-loop-run l = record {
  ranked : l.ranked.items ++ into_iter_items l.run-iterator ≡ l.fn.runs.items;
  left : into_iter_len l.run-iterator ≡ length (into_iter_items l.run-iterator);
}
