use Rattle.std.proofs.Common.{List, ℕ}
use Rattle.std.proofs.lemmas.Result.{err_from_is_err_and}
use Rattle.line_forms.proofs.Sequel.{then_reads, stop_reads}
use Rattle.order_bundle.specs.Places.{listed_topic, topic_place}
use Rattle.order_bundle.proofs.TopicRows.{topic_place_plain}
use Rattle.order_bundle.proofs.topics.topic.Goals as goal

pub returns-in_err-topic : goal.returns-in_err-topic
returns-in_err-topic c =
    let p = err_from_is_err_and c.from_residual.result c.from_residual.ensures.1 in
    rw (p.1, p.2) (stop_reads (topic_place c.args.before.now) (λ (p : List ℕ × ℕ). listed_topic p.0 p.1) c.args.lines.now.rest c.topic_line.new.lines c.in_err-topic.field-0.0 (topic_place_plain c.args.before.now) c.in_err-topic.ensures)

pub returns : goal.returns
returns c =
    let head : List ℕ × ℕ = (c.in_ok-topic.topic, c.in_ok-topic.count) in
    then_reads (topic_place c.args.before.now) (λ (p : List ℕ × ℕ). listed_topic p.0 p.1) c.args.lines.now.rest c.topic_line.new.lines.rest head c.listed.new.lines c.listed.result (topic_place_plain c.args.before.now) c.in_ok-topic.ensures c.listed.ensures
