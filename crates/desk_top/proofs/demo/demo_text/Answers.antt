use Rattle.std.proofs.Common.{ap, subst}
use Rattle.std.proofs.lemmas.Result.{IfOk-weaker}
use Rattle.desk_model.specs.Graded.{Marked}
use Rattle.desk_model.specs.declared.types.MeasureName.TheVariants.{Precision}
use Rattle.std.specs.Prelude.{None}
use Rattle.desk_report.specs.Reports.{IsSumsOn, subject}
use Rattle.desk_top.proofs.Marking.{marks_known}
use Rattle.desk_top.proofs.demo.demo_text.Goals as goal

pub sums_on-requires-clause-marks : goal.sums_on-requires-clause-marks
sums_on-requires-clause-marks g c = rw c.in_ok-marks.ensures (marks_known 1 None c.in_ok-demo.demo.desk c.valid.ensures)

pub texts_of-requires-clause-sums : goal.texts_of-requires-clause-sums
texts_of-requires-clause-sums g c =
    let M = g.P.Made.Measure in
    let kept = c.in_ok-sums.sums in
    subst (λ marks. IsSumsOn (M.measured kept.measure) (M.cell_of kept.measure) (M.bounds_of kept.measure) (subject (Precision 10) 1 None c.in_ok-demo.demo.desk marks) kept) (ap (λ (m : Marked). m.rows) c.in_ok-marks.ensures) c.in_ok-sums.ensures.sums

pub returns-clause-text : goal.returns-clause-text
returns-clause-text g c =
    let demo = c.in_ok-demo.demo in
    IfOk-weaker c.texts_of.result _ _ (λ text shown. record { desk = demo.desk; rows = demo.rows; made = c.in_ok-demo.ensures.demo; shown = shown }) c.texts_of.ensures
