use Rattle.std.proofs.Common.{◌≡◌, ◌++◌, length}
use Rattle.std.specs.Vec.Iter.{into_iter_items, into_iter_len}
use Rattle.file_rows.proofs.growing_rows.rows_of_all.Given as goal

abbrev pub invariant-loop-topic : goal.invariant-loop-topic
invariant-loop-topic g l = record {
  rows : l.rows.items ++ into_iter_items l.topic-iterator ≡ l.fn.grouped.items;
  left : into_iter_len l.topic-iterator ≡ length (into_iter_items l.topic-iterator);
}
