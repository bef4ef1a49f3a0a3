use Rattle.std.proofs.Common.{◌≡◌, ◌∷◌, [], ◌++◌, ◌∙◌, length, ap, subst, arith, length-append, Err}
use Rattle.std.proofs.lemmas.Result.{err_from_is_err_and}
use Rattle.line_forms.specs.Reading.{BeginsWith, IsReading}
use Rattle.line_forms.specs.Rows.{key_after}
use Rattle.line_forms.proofs.Loops.{all_read, one_read, rest_unread}
use Rattle.order_bundle.specs.Bundle.{picks_lines}
use Rattle.order_bundle.specs.Places.{doc_count}
use Rattle.order_bundle.proofs.PickOrder.{ArePicksOf}
use Rattle.order_bundle.specs.Places.{picks_places}
use Rattle.order_bundle.proofs.PickRows.{doc_count_next, picks_in, picks_kind}
use Rattle.order_bundle.proofs.PickOrder.{next_topic}
use Rattle.order_bundle.proofs.claims.topic_picks.Goals as goal

pub returns-in_err-next : goal.returns-in_err-next
returns-in_err-next c =
    let p = err_from_is_err_and c.from_residual.result c.from_residual.ensures.1 in
    let topics = c.args.topics.now in
    let picks = c.loop-topic.picks.items in
    let count : length c.as_slice.result.now ≡ doc_count topics (key_after next_topic 0 picks) =
    ap length c.as_slice.ensures ∙ doc_count_next topics picks c.loop-topic.topic-index c.topic-item.result (omega arith) c.topic-item.is c.loop-topic.invariant.count in
    let fails = subst (λ n. IsReading (picks_places n) c.loop-topic.lines.rest (Err c.in_err-next.field-0.0) c.both_lists.new.lines) count c.in_err-next.ensures in
    let seen = c.loop-topic.invariant.count in
    rw (p.1, p.2) (rest_unread (picks_in topics) next_topic picks_lines (ArePicksOf topics) (picks_kind topics c.requires) (length topics) 0 c.args.lines.now.rest picks c.loop-topic.lines.rest c.both_lists.new.lines c.in_err-next.field-0.0 c.loop-topic.invariant.read (omega arith) fails)

pub loop-topic-preserved : goal.loop-topic-preserved
loop-topic-preserved c =
    let topics = c.args.topics.now in
    let picks = c.loop-topic.picks.items in
    let next = c.in_ok-next.next in
    let count : length c.as_slice.result.now ≡ doc_count topics (key_after next_topic 0 picks) =
    ap length c.as_slice.ensures ∙ doc_count_next topics picks c.loop-topic.topic-index c.topic-item.result (omega arith) c.topic-item.is c.loop-topic.invariant.count in
    let here = subst (λ n. BeginsWith (picks_places n) c.loop-topic.lines.rest next c.both_lists.new.lines.rest) count c.in_ok-next.ensures in
    let items : c.push.new.self.items ≡ picks ++ next ∷ [] = c.in_ok-push.ensures.items in
    let seen = c.loop-topic.invariant.count in
    record {
      read = one_read (picks_in topics) next_topic picks_lines (ArePicksOf topics) (picks_kind topics c.requires) (length topics) 0 c.args.lines.now.rest picks c.push.new.self.items next c.loop-topic.lines.rest c.both_lists.new.lines.rest c.loop-topic.invariant.read (omega arith) here items;
      count = omega (arith, ap length items, length-append picks (next ∷ []));
    }

pub returns : goal.returns
returns c =
    let topics = c.args.topics.now in
    let seen = c.loop-topic.invariant.count in
    rw c.new.ensures (all_read (picks_in topics) next_topic picks_lines (ArePicksOf topics) (picks_kind topics c.requires) (length topics) 0 c.args.lines.now.rest c.loop-topic.picks.items c.loop-topic.lines.rest c.loop-topic.invariant.read (omega arith))
