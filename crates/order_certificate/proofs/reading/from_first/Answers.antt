use Rattle.std.proofs.lemmas.Result.{err_from_is_err_and}
use Rattle.line_forms.proofs.Sequel.{then_reads, stop_reads}
use Rattle.std.specs.Prelude.{codes}
use Rattle.line_forms.specs.Places.{name_place}
use Rattle.order_certificate.specs.Places.{from_second}
use Rattle.order_certificate.proofs.Whole.{first_plain}
use Rattle.order_certificate.proofs.reading.from_first.Goals as goal

pub returns-in_err-first : goal.returns-in_err-first
returns-in_err-first c =
    let p = err_from_is_err_and c.from_residual.result c.from_residual.ensures.1 in
    rw (p.1, p.2) (stop_reads (name_place (codes "first ")) (from_second c.args.measure c.args.level) c.args.lines.now.rest c.name_line.new.lines c.in_err-first.field-0.0 first_plain c.in_err-first.ensures)

pub returns : goal.returns
returns c = then_reads (name_place (codes "first ")) (from_second c.args.measure c.args.level) c.args.lines.now.rest c.name_line.new.lines.rest c.in_ok-first.first c.from_second.new.lines c.from_second.result first_plain c.in_ok-first.ensures c.from_second.ensures
