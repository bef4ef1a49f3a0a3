use Rattle.std.proofs.Common.{◌≡◌, ◌+◌, All, length, ap, sym, subst, ◌∙◌}
use Rattle.std.proofs.lemmas.List.{length_push}
use Rattle.std.proofs.lemmas.List.Elements.{All-push}
use Rattle.pair_table.specs.Kept.{TopicNumbers}
use Rattle.pair_table.proofs.topics.topic_rooms.Goals as goal

pub loop-topic-preserved : goal.loop-topic-preserved
loop-topic-preserved c =
    let rooms = c.loop-topic.rooms.items in
    let kept = c.in_ok-new.field-0 in
    let items = c.in_ok-push.ensures.items in
    let before = c.loop-topic.invariant in
    let each_run = λ (kept : TopicNumbers). length kept.bounds ≡ length c.args.desk.now.runs in
    record {
      count = ap length items ∙ length_push rooms kept ∙ ap (λ n. n + 1) before.count;
      runs = subst (All each_run) (sym items) (All-push each_run rooms kept before.runs c.in_ok-new.ensures);
    }
