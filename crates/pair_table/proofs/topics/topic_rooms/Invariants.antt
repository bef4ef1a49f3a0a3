use Rattle.std.proofs.Common.{◌≡◌, All, length}
use Rattle.pair_table.specs.Kept.{TopicNumbers}
use Rattle.pair_table.proofs.topics.topic_rooms.Given as goal

abbrev pub invariant-loop-topic : goal.invariant-loop-topic
invariant-loop-topic l = record {
  count : length l.rooms.items ≡ l._topic;
  runs : All (λ (kept : TopicNumbers). length kept.bounds ≡ length l.desk.runs) l.rooms.items;
}
