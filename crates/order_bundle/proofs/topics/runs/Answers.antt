use Rattle.std.proofs.lemmas.Result.{err_from_is_err_and}
use Rattle.std.specs.Prelude.{codes}
use Rattle.line_forms.proofs.Sequel.{then_reads, stop_reads}
use Rattle.order_certificate.specs.Places.{name_places}
use Rattle.order_bundle.specs.Places.{runs_place}
use Rattle.order_bundle.proofs.TopicRows.{runs_place_plain}
use Rattle.order_bundle.proofs.topics.runs.Goals as goal

pub returns-in_err-count : goal.returns-in_err-count
returns-in_err-count c =
    let p = err_from_is_err_and c.from_residual.result c.from_residual.ensures.1 in
    rw (p.1, p.2) (stop_reads runs_place (name_places (codes "run ")) c.args.lines.now.rest c.number_line.new.lines c.in_err-count.field-0.0 runs_place_plain c.in_err-count.ensures)

pub returns : goal.returns
returns c = then_reads runs_place (name_places (codes "run ")) c.args.lines.now.rest c.number_line.new.lines.rest c.in_ok-count.count c.names.new.lines c.names.result runs_place_plain c.in_ok-count.ensures c.names.ensures
