use Rattle.std.proofs.lemmas.Result.{err_from_is_err_and}
use Rattle.line_forms.proofs.Sequel.{then_reads, stop_reads}
use Rattle.std.specs.Prelude.{codes}
use Rattle.line_forms.specs.Places.{fixed_place}
use Rattle.order_certificate.specs.Places.{from_measure}
use Rattle.order_certificate.proofs.Whole.{version_plain}
use Rattle.order_certificate.proofs.reading.certificate.Goals as goal

pub returns-in_err-fixed_line : goal.returns-in_err-fixed_line
returns-in_err-fixed_line c =
    let p = err_from_is_err_and c.from_residual.result c.from_residual.ensures.1 in
    rw (p.1, p.2) (stop_reads (fixed_place (codes "desk-certificate 1")) (λ _. from_measure) c.args.lines.now.rest c.fixed_line.new.lines c.in_err-fixed_line.field-0.0 version_plain c.in_err-fixed_line.ensures)

pub returns : goal.returns
returns c = then_reads (fixed_place (codes "desk-certificate 1")) (λ _. from_measure) c.args.lines.now.rest c.fixed_line.new.lines.rest tt c.from_measure.new.lines c.from_measure.result version_plain c.in_ok-fixed_line.ensures c.from_measure.ensures
