use Rattle.std.proofs.lemmas.Result.{err_from_is_err_and}
use Rattle.line_forms.proofs.Sequel.{then_reads, stop_reads}
use Rattle.std.specs.Prelude.{codes}
use Rattle.line_forms.specs.Places.{name_place}
use Rattle.order_certificate.specs.Places.{from_evidence}
use Rattle.order_certificate.proofs.Whole.{second_plain}
use Rattle.order_certificate.proofs.reading.from_second.Goals as goal

pub returns-in_err-second : goal.returns-in_err-second
returns-in_err-second c =
    let p = err_from_is_err_and c.from_residual.result c.from_residual.ensures.1 in
    rw (p.1, p.2) (stop_reads (name_place (codes "second ")) (from_evidence c.args.measure c.args.level c.args.first) c.args.lines.now.rest c.name_line.new.lines c.in_err-second.field-0.0 second_plain c.in_err-second.ensures)

pub returns : goal.returns
returns c = then_reads (name_place (codes "second ")) (from_evidence c.args.measure c.args.level c.args.first) c.args.lines.now.rest c.name_line.new.lines.rest c.in_ok-second.second c.from_evidence.new.lines c.from_evidence.result second_plain c.in_ok-second.ensures c.from_evidence.ensures
