use Rattle.std.proofs.lemmas.Result.{err_from_is_err_and}
use Rattle.line_forms.specs.Rows.{named_rows}
use Rattle.line_forms.proofs.Sequel.{then_reads, stop_reads}
use Rattle.order_certificate.specs.Places.{topics_place}
use Rattle.order_certificate.proofs.Whole.{topics_plain}
use Rattle.order_bundle.specs.Places.{topic_places}
use Rattle.order_bundle.proofs.TopicRows.{topic_name}
use Rattle.order_bundle.proofs.topics.topics.Goals as goal

pub returns-in_err-count : goal.returns-in_err-count
returns-in_err-count c =
    let p = err_from_is_err_and c.from_residual.result c.from_residual.ensures.1 in
    rw (p.1, p.2) (stop_reads topics_place (named_rows topic_places topic_name) c.args.lines.now.rest c.number_line.new.lines c.in_err-count.field-0.0 topics_plain c.in_err-count.ensures)

pub returns : goal.returns
returns c = then_reads topics_place (named_rows topic_places topic_name) c.args.lines.now.rest c.number_line.new.lines.rest c.in_ok-count.count c.listed_topics.new.lines c.listed_topics.result topics_plain c.in_ok-count.ensures c.listed_topics.ensures
