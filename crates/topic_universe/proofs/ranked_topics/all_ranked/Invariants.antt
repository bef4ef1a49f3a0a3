use Rattle.std.proofs.Common.{◌≡◌, ◌++◌, length}
use Rattle.std.specs.Vec.Iter.{into_iter_items, into_iter_len}
use Rattle.topic_universe.proofs.ranked_topics.all_ranked.Given as goal

abbrev pub invariant-loop-rows : goal.invariant-loop-rows
invariant-loop-rows l = record {
  ranked : l.ranked.items ++ into_iter_items l.rows-iterator ≡ l.fn.grouped.items;
  left : into_iter_len l.rows-iterator ≡ length (into_iter_items l.rows-iterator);
}
