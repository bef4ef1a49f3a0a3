use Rattle.std.proofs.Common.{◌≡◌, ◌+◌, length, Some, ap, ◌∙◌, arith, subst, sym}
use Rattle.std.specs.Prelude.{slice_get}
use Rattle.std.proofs.lemmas.List.{length_push}
use Rattle.desk_model.proofs.DeskTopics.{small_at}
use Rattle.topic_ends.specs.Counted.{AreCountsOf}
use Rattle.topic_ends.proofs.DeskPlaces.{marks_within}
use Rattle.bundle_verifier.proofs.RoomParts.{counts_more}
use Rattle.bundle_verifier.proofs.room.count_topics.Goals as goal

pub topic-requires : goal.topic-requires
topic-requires c = marks_within c.args.desk.now c.args.marks.now c.requires c.loop-topic.topic (omega (arith, c.loop-topic-test.true, c.topic_count-topic-end.ensures.count))

pub all_documents-next-requires : goal.all_documents-next-requires
all_documents-next-requires c = small_at c.args.desk.now c.args.marks.now c.topic_count-topic-end.ensures.desk c.requires c.loop-topic.topic c.topic.result.now c.topic.ensures

pub loop-topic-preserved : goal.loop-topic-preserved
loop-topic-preserved c =
    let counts = c.loop-topic.counts.items in
    let next = c.all_documents-next.result in
    let kept = c.loop-topic.invariant in
    let items = c.in_ok-push.ensures.items in
    let at = subst (λ n. slice_get c.args.marks.now n ≡ Some c.topic.result.now) (sym kept.count) c.topic.ensures in
    record {
      count = ap length items ∙ length_push counts next ∙ ap (λ n. n + 1) kept.count;
      known = subst (AreCountsOf c.args.marks.now) (sym items) (counts_more c.args.marks.now counts next c.topic.result.now kept.known at c.all_documents-next.ensures);
    }
