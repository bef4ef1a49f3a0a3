use Rattle.std.proofs.Common.{◌++◌, codes, decimal}
use Rattle.std.proofs.lemmas.Result.{on_ok_weaker}
use Rattle.desk_model.specs.MeasureText.{measure_text}
use Rattle.line_forms.specs.Form.{ended}
use Rattle.line_forms.proofs.Joins.{three}
use Rattle.order_bundle.proofs.writing.push_opening.Goals as goal

pub returns : goal.returns
returns c =
    on_ok_weaker c.push_number_line.result (three c.args.out.now.items c.push_line.new.out.items c.push_measure_line.new.out.items c.push_number_line.new.out.items
    (ended (codes "desk-certificate 2")) (ended (codes "measure " ++ measure_text c.args.measure.now)) (ended (codes "level " ++ decimal c.args.level)) c.in_ok-push_line.ensures c.in_ok-push_measure_line.ensures) c.push_number_line.ensures
