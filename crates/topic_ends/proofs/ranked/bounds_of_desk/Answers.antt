use Rattle.std.proofs.Common.{◌≡◌, ℕ, List, ◌+◌, length, Some, ap, subst, sym, ◌∙◌}
use Rattle.std.specs.Prelude.{slice_get}
use Rattle.std.proofs.lemmas.List.{length_push}
use Rattle.desk_model.specs.declared.types.Mark.{Mark}
use Rattle.topic_ends.specs.RunBounds.{AreBoundsOf, AreBoundsOn}
use Rattle.topic_ends.proofs.KnownBounds.{topics_more}
use Rattle.topic_ends.proofs.ranked.bounds_of_desk.Goals as goal

pub loop-topic-preserved : goal.loop-topic-preserved
loop-topic-preserved c =
    let desk = c.args.desk.now in
    let marks = c.args.marks.now in
    let rows = c.loop-topic.bounds.items in
    let next = c.in_ok-next.next in
    let kept = c.loop-topic.invariant in
    let items = c.in_ok-push.ensures.items in
    let here : (m : List Mark) → slice_get marks (length rows) ≡ Some m → AreBoundsOn desk (length rows) m next =
    subst (λ (n : ℕ). (m : List Mark) → slice_get marks n ≡ Some m → AreBoundsOn desk n m next) (sym kept.count) c.in_ok-next.ensures in
    record {
      count = ap length items ∙ length_push rows next ∙ ap (λ n. n + 1) kept.count;
      known = subst (AreBoundsOf desk marks) (sym items) (topics_more desk marks rows next kept.known here);
    }
