use Rattle.std.proofs.lemmas.Result.{err_from_is_err_and}
use Rattle.line_forms.proofs.Sequel.{then_reads, stop_reads}
use Rattle.order_certificate.specs.Places.{level_place, from_first}
use Rattle.order_certificate.proofs.Whole.{level_plain}
use Rattle.order_certificate.proofs.reading.from_level.Goals as goal

pub returns-in_err-level : goal.returns-in_err-level
returns-in_err-level c =
    let p = err_from_is_err_and c.from_residual.result c.from_residual.ensures.1 in
    rw (p.1, p.2) (stop_reads level_place (from_first c.args.measure) c.args.lines.now.rest c.number_line.new.lines c.in_err-level.field-0.0 level_plain c.in_err-level.ensures)

pub returns : goal.returns
returns c = then_reads level_place (from_first c.args.measure) c.args.lines.now.rest c.number_line.new.lines.rest c.in_ok-level.level c.from_first.new.lines c.from_first.result level_plain c.in_ok-level.ensures c.from_first.ensures
