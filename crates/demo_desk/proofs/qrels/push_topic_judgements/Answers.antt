use Rattle.std.proofs.Common.{ap, refl, ◌∙◌}
use Rattle.demo_desk.specs.Draws.{next_state, value_of}
use Rattle.demo_desk.proofs.TextLines.{state_after-one, state_after-none, next_drawn, no_judgements, judgement_more}
use Rattle.demo_desk.proofs.qrels.push_topic_judgements.Goals as goal

pub loop-doc-init : goal.loop-doc-init
loop-doc-init c = (no_judgements _ _ _, state_after-none _ 0 refl)

pub loop-doc-preserved : goal.loop-doc-preserved
loop-doc-preserved c = (
  judgement_more _ _ _ _ _ _ _ (next_drawn _ _ _ _ c.loop-doc.invariant.1 (c.draw-value.ensures.value ∙ ap value_of c.draw-value.ensures.state)) c.loop-doc.invariant.0 c.in_ok-push_judgement.ensures,
  c.draw-value.ensures.state ∙ ap next_state c.loop-doc.invariant.1 ∙ state_after-one _ _,
)
