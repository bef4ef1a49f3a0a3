use Rattle.std.proofs.Common.{◌≡◌, ◌++◌, drop, flat_map}
use Rattle.line_forms.specs.Form.{text_of}
use Rattle.order_bundle.specs.Bundle.{topic_lines}
use Rattle.order_bundle.proofs.writing.push_topics.Given as goal

-- what is written and what is left to write are all
abbrev pub invariant-loop-topic : goal.invariant-loop-topic
invariant-loop-topic l = l.out.items ++ text_of (flat_map topic_lines (drop l.topic-index l.topics)) ≡ l.fn.out.items ++ text_of (flat_map topic_lines l.topics)
