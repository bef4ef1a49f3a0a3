use Rattle.std.proofs.Common.{◌<◌, ◌++◌, ap, ◌∙◌, length, arith}
use Rattle.desk_report.specs.Judging.{topic_qrels_text}
use Rattle.desk_model.specs.Named.{book_at}
use Rattle.session_replies.proofs.Judgements.{more_topics, all_topics}
use Rattle.session_replies.proofs.Marks.{length-in_force}
use Rattle.session_replies.proofs.telling.qrels.Goals as goal

pub qrels_text-requires-clause-count : goal.qrels_text-requires-clause-count
qrels_text-requires-clause-count c =
    let desk = c.args.desk.now in
    let t = c.loop-topic.topic in
    let lt : t < length desk.topics = omega (arith, c.loop-topic-test.true, c.topic_count-topic-end.ensures.count) in
    ap length (c.deref.ensures.value ∙ c.in_ok-grades.ensures) ∙ length-in_force desk c.topic_count-topic-end.ensures.desk t c.args.session.now lt

pub loop-topic-preserved : goal.loop-topic-preserved
loop-topic-preserved c =
    let desk = c.args.desk.now in
    let t = c.loop-topic.topic in
    let lt : t < length desk.topics = omega (arith, c.loop-topic-test.true, c.topic_count-topic-end.ensures.count) in
    more_topics desk c.args.session.now t c.loop-topic.out.items c.extend_from_slice.new.self.items lt c.loop-topic.invariant
    (c.in-Ok.ensures.items ∙ ap (λ text. c.loop-topic.out.items ++ text) (c.deref-in-loop-topic.ensures.value ∙ c.in_ok-text.ensures ∙ ap (topic_qrels_text (book_at desk t)) (c.deref.ensures.value ∙ c.in_ok-grades.ensures)))

pub returns : goal.returns
returns c = all_topics c.args.desk.now c.args.session.now c.loop-topic.topic c.loop-topic.out.items (omega (arith, c.loop-topic-test.false, c.topic_count-topic-end.ensures.count)) c.loop-topic.invariant
