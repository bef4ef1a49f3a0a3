use Rattle.std.proofs.lemmas.Result.{err_from_is_err_and}
use Rattle.line_forms.proofs.Sequel.{then_reads, stop_reads}
use Rattle.order_certificate.specs.Places.{measure_place, from_level}
use Rattle.order_certificate.proofs.Whole.{measure_plain}
use Rattle.order_certificate.proofs.reading.from_measure.Goals as goal

pub returns-in_err-measure : goal.returns-in_err-measure
returns-in_err-measure c =
    let p = err_from_is_err_and c.from_residual.result c.from_residual.ensures.1 in
    rw (p.1, p.2) (stop_reads measure_place from_level c.args.lines.now.rest c.measure_line.new.lines c.in_err-measure.field-0.0 (measure_plain c.measure_of_text_is_unique.ensures) c.in_err-measure.ensures)

pub returns : goal.returns
returns c = then_reads measure_place from_level c.args.lines.now.rest c.measure_line.new.lines.rest c.in_ok-measure.measure c.from_level.new.lines c.from_level.result (measure_plain c.measure_of_text_is_unique.ensures) c.in_ok-measure.ensures c.from_level.ensures
