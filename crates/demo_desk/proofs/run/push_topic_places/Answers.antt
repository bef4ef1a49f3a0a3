use Rattle.std.proofs.Common.{◌%◌, ◌≡◌, ◌+◌, ap, refl, ◌∙◌, arith}
use Rattle.demo_desk.specs.Draws.{next_state, state_after, value_of}
use Rattle.demo_desk.proofs.TextLines.{state_after-one, state_after-none, next_drawn, no_places, place_more}
use Rattle.demo_desk.proofs.run.push_topic_places.Goals as goal

pub loop-place-init : goal.loop-place-init
loop-place-init c = (no_places _ _ _ _, c.draw-first.ensures.state ∙ ap next_state (state_after-none _ 0 refl) ∙ state_after-one _ 0)

pub loop-place-preserved : goal.loop-place-preserved
loop-place-preserved c =
    let more : (1 + c.loop-place.place) + 1 ≡ 1 + (c.loop-place.place + 1) = omega arith in (
      place_more _ _ _ _ _ _ _ _ _ (ap (λ v. v % 2000) (next_drawn _ 0 _ _ (state_after-none _ 0 refl) (c.draw-first.ensures.value ∙ ap value_of c.draw-first.ensures.state)))
          (next_drawn _ _ _ _ c.loop-place.invariant.1 (c.draw-score.ensures.value ∙ ap value_of c.draw-score.ensures.state)) c.loop-place.invariant.0 c.in_ok-push_place.ensures,
      c.draw-score.ensures.state ∙ ap next_state c.loop-place.invariant.1 ∙ state_after-one _ _ ∙ ap (state_after _) more,
    )
