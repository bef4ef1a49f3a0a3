use Rattle.std.proofs.Common.{◌+◌, ap, ◌∙◌, arith}
use Rattle.demo_desk.specs.Draws.{state_after}
use Rattle.demo_desk.proofs.TextLines.{state_after-none, state_after-times, no_topic_places, topic_places_more}
use Rattle.demo_desk.proofs.run.push_places.Goals as goal

pub loop-topic-init : goal.loop-topic-init
loop-topic-init c = (no_topic_places _ _ _ _, state_after-none _ _ (omega arith))

pub loop-topic-preserved : goal.loop-topic-preserved
loop-topic-preserved c = (
  topic_places_more _ _ _ _ _ _ _ _ c.loop-topic.invariant.1 c.loop-topic.invariant.0 c.in_ok-push_topic_places.ensures.text,
  c.in_ok-push_topic_places.ensures.state ∙ ap (λ s. state_after s (1 + c.args.places)) c.loop-topic.invariant.1 ∙ state_after-times _ (1 + c.args.places) _,
)
