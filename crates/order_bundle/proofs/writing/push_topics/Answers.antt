use Rattle.std.proofs.Common.{refl, arith, flat_map}
use Rattle.line_forms.proofs.Joins.{lines_more, all_written}
use Rattle.order_bundle.specs.Bundle.{topic_lines}
use Rattle.order_bundle.proofs.writing.push_topics.Goals as goal

pub loop-topic-preserved : goal.loop-topic-preserved
loop-topic-preserved c = lines_more topic_lines _ _ _ c.args.topics.now c.loop-topic.topic-index c.topic-item.result (omega arith) c.topic-item.is c.loop-topic.invariant c.in_ok-push_topic.ensures

pub returns : goal.returns
returns c = all_written (flat_map topic_lines) _ _ c.args.topics.now c.loop-topic.topic-index refl (omega arith) c.loop-topic.invariant
