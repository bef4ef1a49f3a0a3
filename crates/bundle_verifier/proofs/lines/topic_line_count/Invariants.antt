use Rattle.std.proofs.Common.{◌≡◌, ◌*◌, ◌≤◌, ℕ, List, length, flat_map, take}
use Rattle.order_bundle.specs.Bundle.{topic_lines}
use Rattle.order_bundle.specs.declared.bundle.TopicNames.{TopicNames}
use Rattle.bundle_verifier.proofs.lines.topic_line_count.Given as goal

pub record Counted (rows : List TopicNames) (index lines : ℕ) : Type 0 where
  pub counted : lines ≡ length (flat_map topic_lines (take index rows))
  pub small : lines ≤ index * 25000001

abbrev pub invariant-loop-topic : goal.invariant-loop-topic
invariant-loop-topic l = Counted l.topics l.topic-index l.lines
