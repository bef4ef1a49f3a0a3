use Rattle.std.proofs.Common.{◌≡◌, ◌<◌, ◌+◌, ℕ, false, get_or}
use Rattle.std.specs.Ordering.{is_lt}
use Rattle.file_rows.specs.Grouped.{Valued}
use Rattle.topic_universe.specs.Order.{trec_cmp}
use Rattle.topic_universe.proofs.entry.are_in_order.Given as goal

abbrev pub invariant-loop-i : goal.invariant-loop-i
invariant-loop-i l = (k : ℕ) (d : Valued) → k + 1 < l.i → is_lt (trec_cmp (get_or l.rows (k + 1) d) (get_or l.rows k d)) ≡ false
