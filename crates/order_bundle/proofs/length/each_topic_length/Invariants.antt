use Rattle.std.proofs.Common.{◌≡◌, ◌+◌, ◌*◌, ◌≤◌, drop, flat_map}
use Rattle.order_bundle.specs.Bundle.{topic_lines}
use Rattle.order_bundle.specs.Lengths.{text_length}
use Rattle.order_bundle.proofs.length.each_topic_length.Given as goal

-- what is counted and what is left to count are all
abbrev pub invariant-loop-topic : goal.invariant-loop-topic
invariant-loop-topic l = record {
  counted : l.bytes + text_length (flat_map topic_lines (drop l.topic-index l.topics)) ≡ text_length (flat_map topic_lines l.topics);
  few : l.bytes ≤ 6650000400 * l.topic-index;
}
