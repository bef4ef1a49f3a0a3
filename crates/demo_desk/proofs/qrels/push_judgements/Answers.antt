use Rattle.std.proofs.Common.{ap, ◌∙◌, arith}
use Rattle.demo_desk.specs.Draws.{state_after}
use Rattle.demo_desk.proofs.TextLines.{state_after-none, state_after-times, no_topic_judgements, topic_judgements_more}
use Rattle.demo_desk.proofs.qrels.push_judgements.Goals as goal

pub loop-topic-init : goal.loop-topic-init
loop-topic-init c = (no_topic_judgements _ _ _, state_after-none _ _ (omega arith))

pub loop-topic-preserved : goal.loop-topic-preserved
loop-topic-preserved c = (
  topic_judgements_more _ _ _ _ _ _ _ c.loop-topic.invariant.1 c.loop-topic.invariant.0 c.in_ok-push_topic_judgements.ensures.text,
  c.in_ok-push_topic_judgements.ensures.state ∙ ap (λ s. state_after s c.args.documents) c.loop-topic.invariant.1 ∙ state_after-times _ c.args.documents _,
)
