use Rattle.std.proofs.Common.{length, ap, sym, subst, ◌∙◌}
use Rattle.std.proofs.lemmas.Result.{IfOk-weaker}
use Rattle.desk_model.specs.Desk.{AreMarksOf, topics_under}
use Rattle.desk_model.specs.Graded.{Marked}
use Rattle.desk_model.specs.declared.types.MeasureName.{MeasureName}
use Rattle.measure_core.specs.Made.{AreNumbersOfName}
use Rattle.pair_table.specs.Sums.{all_pair_sums, all_run_sums}
use Rattle.graded_rbp.proofs.Desks.{marks_of_level}
use Rattle.graded_rbp.proofs.Tables.{totals_at_level, bounds_at_level}
use Rattle.graded_rbp.proofs.level.level_sums.Goals as goal

pub sums_on-requires-clause-marks : goal.sums_on-requires-clause-marks
sums_on-requires-clause-marks g c = subst (AreMarksOf c.args.desk.now) (sym (ap (λ (k : Marked). k.rows) c.in_ok-marks.ensures)) (marks_of_level c.args.desk.now c.args.level c.valid.ensures)

pub returns-clause-totals : goal.returns-clause-totals
returns-clause-totals g c =
    let desk = c.args.desk.now in
    IfOk-weaker c.sums_on.result _ _ (λ sums made m e.
    let cell = g.P.Made.Measure.cell_of sums.measure in
    let bounds = g.P.Made.Measure.bounds_of sums.measure in
    made.stands.totals ∙ ap (λ marks. all_pair_sums cell (topics_under desk marks) (length desk.runs)) (ap (λ (k : Marked). k.rows) c.in_ok-marks.ensures)
    ∙ totals_at_level m cell bounds (subst (λ (n : MeasureName). AreNumbersOfName n cell bounds) e made.made.numbers) desk c.args.level c.valid.ensures) c.sums_on.ensures.sums

pub returns-clause-bounds : goal.returns-clause-bounds
returns-clause-bounds g c =
    let desk = c.args.desk.now in
    IfOk-weaker c.sums_on.result _ _ (λ sums made m e.
    let cell = g.P.Made.Measure.cell_of sums.measure in
    let bounds = g.P.Made.Measure.bounds_of sums.measure in
    made.stands.bounds ∙ ap (λ marks. all_run_sums bounds (topics_under desk marks) (length desk.runs)) (ap (λ (k : Marked). k.rows) c.in_ok-marks.ensures)
    ∙ bounds_at_level m cell bounds (subst (λ (n : MeasureName). AreNumbersOfName n cell bounds) e made.made.numbers) desk c.args.level c.valid.ensures) c.sums_on.ensures.sums
