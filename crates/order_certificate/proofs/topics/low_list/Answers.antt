use Rattle.std.proofs.lemmas.Result.{err_from_is_err_and}
use Rattle.line_forms.proofs.Sequel.{then_reads, stop_reads}
use Rattle.order_certificate.specs.Places.{document_places, high_places}
use Rattle.order_certificate.proofs.RowKinds.{documents_plain}
use Rattle.order_certificate.proofs.topics.low_list.Goals as goal

pub returns-in_err-low : goal.returns-in_err-low
returns-in_err-low c =
    let p = err_from_is_err_and c.from_residual.result c.from_residual.ensures.1 in
    let n = c.args.count in
    rw (p.1, p.2) (stop_reads (document_places n) (high_places c.args.topic) c.args.lines.now.rest c.documents.new.lines c.in_err-low.field-0.0 (documents_plain n) c.in_err-low.ensures)

pub returns : goal.returns
returns c =
    let n = c.args.count in
    then_reads (document_places n) (high_places c.args.topic) c.args.lines.now.rest c.documents.new.lines.rest c.in_ok-low.low c.high_list.new.lines c.high_list.result (documents_plain n) c.in_ok-low.ensures c.high_list.ensures
