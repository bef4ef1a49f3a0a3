use Rattle.std.proofs.Common.{◌∙◌}
use Rattle.line_forms.proofs.Loops.{last_is}
use Rattle.order_bundle.proofs.TopicRows.{topic_name}
use Rattle.order_bundle.proofs.topics.last_topic.Goals as goal

pub returns-in-Some : goal.returns-in-Some
returns-in-Some c = c.as_bytes.ensures.bytes ∙ last_is topic_name c.args.topics.now c.in-Some.topic.now c.in-Some.ensures.value
