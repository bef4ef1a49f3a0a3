use Rattle.std.proofs.Common.{subst, Ok, Err}
use Rattle.std.proofs.lemmas.Result.{err_from_is_err_and}
use Rattle.line_forms.specs.Form.{Whole, bind}
use Rattle.line_forms.specs.Reading.{BeginsWith, IsReading}
use Rattle.line_forms.proofs.Sequel.{then_reads, stop_reads, made_reads}
use Rattle.order_certificate.specs.Places.{high_count_place, document_places}
use Rattle.order_certificate.proofs.RowKinds.{made, high_count_plain, documents_plain}
use Rattle.order_certificate.proofs.topics.high_list.Goals as goal

pub returns-in_err-count : goal.returns-in_err-count
returns-in_err-count c =
    let p = err_from_is_err_and c.from_residual.result c.from_residual.ensures.1 in
    let topic = c.args.topic in
    let fails = subst (λ z. IsReading (high_count_place z) c.args.lines.now.rest (Err c.in_err-count.field-0.0) c.high_count_line.new.lines) c.as_bytes.ensures.bytes c.in_err-count.ensures in
    rw (p.1, p.2) (stop_reads (high_count_place topic) (λ n. bind (document_places n) (λ high. Whole (made topic c.args.low high))) c.args.lines.now.rest c.high_count_line.new.lines c.in_err-count.field-0.0 (high_count_plain topic c.as_bytes.ensures.name) fails)

pub returns-in_err-high : goal.returns-in_err-high
returns-in_err-high c =
    let p = err_from_is_err_and c.from_residual-in_err-high.result c.from_residual-in_err-high.ensures.1 in
    let topic = c.args.topic in
    let n = c.in_ok-count.count in
    let count = subst (λ z. BeginsWith (high_count_place z) c.args.lines.now.rest n c.high_count_line.new.lines.rest) c.as_bytes.ensures.bytes c.in_ok-count.ensures in
    rw (p.1, p.2) (then_reads (high_count_place topic) (λ n. bind (document_places n) (λ high. Whole (made topic c.args.low high))) c.args.lines.now.rest c.high_count_line.new.lines.rest n c.documents.new.lines (Err c.in_err-high.field-0.0) (high_count_plain topic c.as_bytes.ensures.name) count
    (stop_reads (document_places n) (λ high. Whole (made topic c.args.low high)) c.high_count_line.new.lines.rest c.documents.new.lines c.in_err-high.field-0.0 (documents_plain n) c.in_err-high.ensures))

pub returns : goal.returns
returns c =
    let topic = c.args.topic in
    let n = c.in_ok-count.count in
    let count = subst (λ z. BeginsWith (high_count_place z) c.args.lines.now.rest n c.high_count_line.new.lines.rest) c.as_bytes.ensures.bytes c.in_ok-count.ensures in
    then_reads (high_count_place topic) (λ n. bind (document_places n) (λ high. Whole (made topic c.args.low high))) c.args.lines.now.rest c.high_count_line.new.lines.rest n c.documents.new.lines (Ok (made topic c.args.low c.in_ok-high.high)) (high_count_plain topic c.as_bytes.ensures.name) count
    (made_reads (document_places n) (made topic c.args.low) c.high_count_line.new.lines.rest c.documents.new.lines.rest c.in_ok-high.high c.in_ok-high.ensures)
