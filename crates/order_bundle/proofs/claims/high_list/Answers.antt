use Rattle.std.proofs.Common.{ℕ, List}
use Rattle.std.proofs.lemmas.Result.{err_from_is_err_and}
use Rattle.std.specs.Prelude.{codes}
use Rattle.line_forms.specs.Form.{Whole}
use Rattle.line_forms.proofs.Sequel.{stop_reads, made_reads}
use Rattle.order_bundle.specs.Places.{list_places}
use Rattle.order_bundle.proofs.PickRows.{high_above, list_plain, lists_of}
use Rattle.order_bundle.proofs.claims.high_list.Goals as goal

pub returns-in_err-high : goal.returns-in_err-high
returns-in_err-high c =
    let p = err_from_is_err_and c.from_residual.result c.from_residual.ensures.1 in
    rw (p.1, p.2) (stop_reads (list_places (codes "high ") c.args.docs) (λ (high : List ℕ). Whole (lists_of c.args.low high)) c.args.lines.now.rest c.list.new.lines c.in_err-high.field-0.0 (list_plain c.args.docs c.requires (codes "high ") high_above) c.in_err-high.ensures)

pub returns : goal.returns
returns c = made_reads (list_places (codes "high ") c.args.docs) (lists_of c.args.low) c.args.lines.now.rest c.list.new.lines.rest c.in_ok-high.high c.in_ok-high.ensures
