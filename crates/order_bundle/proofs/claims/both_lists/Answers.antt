use Rattle.std.proofs.lemmas.Result.{err_from_is_err_and}
use Rattle.std.specs.Prelude.{codes}
use Rattle.line_forms.proofs.Sequel.{then_reads, stop_reads}
use Rattle.order_bundle.specs.Places.{high_places, list_places}
use Rattle.order_bundle.proofs.PickRows.{list_plain, low_above}
use Rattle.order_bundle.proofs.claims.both_lists.Goals as goal

pub returns-in_err-low : goal.returns-in_err-low
returns-in_err-low c =
    let p = err_from_is_err_and c.from_residual.result c.from_residual.ensures.1 in
    rw (p.1, p.2) (stop_reads (list_places (codes "low ") c.args.docs) (high_places c.args.docs) c.args.lines.now.rest c.list.new.lines c.in_err-low.field-0.0 (list_plain c.args.docs c.requires (codes "low ") low_above) c.in_err-low.ensures)

pub returns : goal.returns
returns c =
    then_reads (list_places (codes "low ") c.args.docs) (high_places c.args.docs) c.args.lines.now.rest c.list.new.lines.rest c.in_ok-low.low c.high_list.new.lines c.high_list.result (list_plain c.args.docs c.requires (codes "low ") low_above) c.in_ok-low.ensures c.high_list.ensures
