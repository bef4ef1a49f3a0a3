use Rattle.std.proofs.Common.{◌++◌}
use Rattle.std.specs.Prelude.{codes}
use Rattle.std.proofs.lemmas.Result.{err_from_is_err_and}
use Rattle.desk_model.specs.MeasureText.{IsMeasure, measure_text}
use Rattle.line_forms.proofs.Sequel.{then_reads, stop_reads}
use Rattle.line_forms.proofs.Spelling.{one_forth}
use Rattle.order_certificate.specs.Places.{measure_place}
use Rattle.order_certificate.proofs.Whole.{measure_plain}
use Rattle.order_bundle.specs.Places.{after_measure}
use Rattle.order_bundle.proofs.reading.after_version.Goals as goal

pub returns-in_err-measure : goal.returns-in_err-measure
returns-in_err-measure c =
    let p = err_from_is_err_and c.from_residual.result c.from_residual.ensures.1 in
    rw (p.1, p.2) (stop_reads measure_place (after_measure c.args.depths c.args.version) c.args.lines.now.rest c.measure_line.new.lines c.in_err-measure.field-0.0 (measure_plain c.measure_of_text_is_unique.ensures) c.in_err-measure.ensures)

pub after_measure-requires : goal.after_measure-requires
after_measure-requires c =
    let h = c.in_ok-measure.ensures in
    (one_forth (λ measure. codes "measure " ++ measure_text measure) IsMeasure h.lines c.in_ok-measure.measure h.spells).0

pub returns : goal.returns
returns c = then_reads measure_place (after_measure c.args.depths c.args.version) c.args.lines.now.rest c.measure_line.new.lines.rest c.in_ok-measure.measure c.after_measure.new.lines c.after_measure.result (measure_plain c.measure_of_text_is_unique.ensures) c.in_ok-measure.ensures c.after_measure.ensures
