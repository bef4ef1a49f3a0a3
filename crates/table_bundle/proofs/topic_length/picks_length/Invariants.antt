use Rattle.std.proofs.Common.{◌≡◌, ◌*◌, ◌≤◌, length}
use Rattle.std.specs.Prelude.{filter}
use Rattle.std.specs.List.{range_with_len, sum_by}
use Rattle.table_bundle.specs.Lengths.{is_counted, pick_share}
use Rattle.table_bundle.proofs.topic_length.picks_length.Given as goal

abbrev pub invariant-loop-times : goal.invariant-loop-times
invariant-loop-times l = record {
  place : l.place ≡ length (filter (is_counted l.counts) (range_with_len 0 l.times-index));
  few_places : l.place ≤ l.times-index;
  bytes : l.bytes ≡ sum_by (pick_share l.counts) (range_with_len 0 l.times-index);
  few : l.bytes ≤ 3002880 * l.times-index;
}
