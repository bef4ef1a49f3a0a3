use Rattle.std.specs.Prelude.{codes}
use Rattle.std.proofs.lemmas.Result.{err_from_is_err_and}
use Rattle.line_forms.specs.Form.{Whole}
use Rattle.line_forms.specs.Places.{fixed_place}
use Rattle.line_forms.proofs.Sequel.{stop_reads, made_reads}
use Rattle.order_certificate.proofs.Whole.{end_plain}
use Rattle.order_bundle.specs.Bundle.{Bundle}
use Rattle.order_bundle.proofs.WholeBundles.{bundle_of}
use Rattle.order_bundle.proofs.reading.from_end.Goals as goal

pub returns-in_err-fixed_line : goal.returns-in_err-fixed_line
returns-in_err-fixed_line c =
    let p = err_from_is_err_and c.from_residual.result c.from_residual.ensures.1 in
    let whole : Bundle = bundle_of c.args.measure c.args.level c.args.runs c.args.topics c.args.claims in
    rw (p.1, p.2) (stop_reads {X = Bundle} (fixed_place (codes "end")) (λ _. Whole whole) c.args.lines.now.rest c.fixed_line.new.lines c.in_err-fixed_line.field-0.0 end_plain c.in_err-fixed_line.ensures)

pub returns : goal.returns
returns c =
    let whole : Bundle = bundle_of c.args.measure c.args.level c.args.runs c.args.topics c.args.claims in
    made_reads {X = Bundle} (fixed_place (codes "end")) (λ _. whole) c.args.lines.now.rest c.fixed_line.new.lines.rest tt c.in_ok-fixed_line.ensures
