use Rattle.std.proofs.Common.{List, ℕ}
use Rattle.std.proofs.lemmas.Result.{err_from_is_err_and}
use Rattle.line_forms.proofs.Sequel.{then_reads, stop_reads}
use Rattle.order_certificate.specs.Places.{low_count_place, listed_places}
use Rattle.order_certificate.proofs.RowKinds.{low_count_plain}
use Rattle.order_certificate.proofs.topics.witness.Goals as goal

pub returns-in_err-topic : goal.returns-in_err-topic
returns-in_err-topic c =
    let p = err_from_is_err_and c.from_residual.result c.from_residual.ensures.1 in
    let before = c.args.before.now in
    rw (p.1, p.2) (stop_reads (low_count_place before) (λ (p : List ℕ × ℕ). listed_places p.0 p.1) c.args.lines.now.rest c.low_count_line.new.lines c.in_err-topic.field-0.0 (low_count_plain before) c.in_err-topic.ensures)

pub returns : goal.returns
returns c =
    let before = c.args.before.now in
    then_reads (low_count_place before) (λ (p : List ℕ × ℕ). listed_places p.0 p.1) c.args.lines.now.rest c.low_count_line.new.lines.rest (c.in_ok-topic.topic, c.in_ok-topic.count) c.low_list.new.lines c.low_list.result (low_count_plain before) c.in_ok-topic.ensures c.low_list.ensures
