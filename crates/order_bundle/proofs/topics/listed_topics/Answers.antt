use Rattle.std.proofs.Common.{[], ◌∙◌, ap, subst, arith, Err}
use Rattle.std.proofs.lemmas.Result.{err_from_is_err_and}
use Rattle.line_forms.specs.Reading.{BeginsWith, IsReading}
use Rattle.line_forms.specs.Rows.{last_name}
use Rattle.line_forms.proofs.Loops.{one_read, rest_unread}
use Rattle.order_bundle.specs.Bundle.{topic_lines}
use Rattle.order_bundle.specs.Places.{topic_places}
use Rattle.order_bundle.proofs.TopicRows.{TopicFollows, topic_kind, topic_name}
use Rattle.order_bundle.proofs.topics.listed_topics.Goals as goal

pub returns-in_err-next : goal.returns-in_err-next
returns-in_err-next c =
    let p = err_from_is_err_and c.from_residual.result c.from_residual.ensures.1 in
    let topics = c.loop-alloc.topics.items in
    let last = c.last_topic.ensures ∙ ap (last_name topic_name) c.as_slice.ensures.value in
    let fails = subst (λ z. IsReading (topic_places z) c.loop-alloc.lines.rest (Err c.in_err-next.field-0.0) c.topic.new.lines) last c.in_err-next.ensures in
    let size = c.len.ensures in
    let test = c.loop-alloc-test.true in
    rw (p.1, p.2) (rest_unread topic_places (λ _ t. topic_name t) topic_lines TopicFollows topic_kind c.args.count [] c.args.lines.now.rest topics c.loop-alloc.lines.rest c.topic.new.lines c.in_err-next.field-0.0 c.loop-alloc.invariant (omega arith) fails)

pub loop-alloc-preserved : goal.loop-alloc-preserved
loop-alloc-preserved c =
    let topics = c.loop-alloc.topics.items in
    let last = c.last_topic.ensures ∙ ap (last_name topic_name) c.as_slice.ensures.value in
    let here = subst (λ z. BeginsWith (topic_places z) c.loop-alloc.lines.rest c.in_ok-next.next c.topic.new.lines.rest) last c.in_ok-next.ensures in
    let size = c.len.ensures in
    let test = c.loop-alloc-test.true in
    one_read topic_places (λ _ t. topic_name t) topic_lines TopicFollows topic_kind c.args.count [] c.args.lines.now.rest topics c.push.new.self.items c.in_ok-next.next c.loop-alloc.lines.rest c.topic.new.lines.rest c.loop-alloc.invariant (omega arith) here c.in_ok-push.ensures.items
