use Rattle.std.proofs.Common.{◌<◌, List, length, ap, sym, subst, ◌∙◌}
use Rattle.std.proofs.lemmas.Result.{IfOk-at_ok}
use Rattle.desk_model.specs.Desk.{topics_under}
use Rattle.desk_model.specs.MeasureText.{IsMeasure}
use Rattle.desk_model.specs.Verdict.{verdict}
use Rattle.desk_model.specs.declared.types.Mark.{Mark}
use Rattle.desk_model.specs.declared.types.Verdict.TheVariants.{Above, Below, Equal, Open}
use Rattle.pair_table.specs.Evidence.{SaysOpen}
use Rattle.pair_table.specs.Kept.{table_sums}
use Rattle.pair_table.proofs.Certified.{cells_certificate}
use Rattle.pair_table.proofs.Keeping.{length-all_numbers}
use Rattle.pair_table.proofs.Saying.{standing_sums, summed_cells, answered_by}
use Rattle.pair_table.proofs.table.Table.evidence.Goals as goal
use Rattle.pair_table.proofs.table.Table.evidence.Goals.{in-Above, in-Below, in-Equal, in-Open}

pub invariant_of-runs-clause-topics : goal.invariant_of-runs-clause-topics
invariant_of-runs-clause-topics g c = ap length c.requires.stands.topics ∙ length-all_numbers (g.M.Measure.cell_of c.args.self.now.measure) (g.M.Measure.bounds_of c.args.self.now.measure) c.args.desk.now c.args.marks.now.rows c.requires.marks

pub invariant_of-swapped-clause-topics : goal.invariant_of-swapped-clause-topics
invariant_of-swapped-clause-topics g c = ap length c.requires.stands.topics ∙ length-all_numbers (g.M.Measure.cell_of c.args.self.now.measure) (g.M.Measure.bounds_of c.args.self.now.measure) c.args.desk.now c.args.marks.now.rows c.requires.marks

pub invariant_of-runs-in-Equal-clause-topics : goal.invariant_of-runs-in-Equal-clause-topics
invariant_of-runs-in-Equal-clause-topics g c = ap length c.requires.stands.topics ∙ length-all_numbers (g.M.Measure.cell_of c.args.self.now.measure) (g.M.Measure.bounds_of c.args.self.now.measure) c.args.desk.now c.args.marks.now.rows c.requires.marks

pub invariant_of-runs-in-Open-clause-topics : goal.invariant_of-runs-in-Open-clause-topics
invariant_of-runs-in-Open-clause-topics g c = ap length c.requires.stands.topics ∙ length-all_numbers (g.M.Measure.cell_of c.args.self.now.measure) (g.M.Measure.bounds_of c.args.self.now.measure) c.args.desk.now c.args.marks.now.rows c.requires.marks

pub returns-in-Close-clause-answer : goal.returns-in-Close-clause-answer
returns-in-Close-clause-answer g c =
    let table = c.args.self.now in
    let name = g.M.Measure.measured table.measure in
    let cell = g.M.Measure.cell_of table.measure in
    let bounds = g.M.Measure.bounds_of table.measure in
    let desk = c.args.desk.now in
    let marks = c.args.marks.now.rows in
    let valid : IsMeasure name = subst IsMeasure (c.name-name.ensures.name ∙ ap g.M.Measure.measured c.measure-measure.ensures) c.name-name.ensures.built in
    let laws = g.met.M.Measure.laws table.measure valid in
    let told = standing_sums name cell bounds desk marks c.args.i c.args.j c.totals.result (table_sums table) laws c.valid.ensures c.requires.marks c.requires.stands.sums c.totals.ensures in
    let judged = standing_sums name cell bounds desk marks c.args.i c.args.j c.verdict.ensures.0 (table_sums table) laws c.valid.ensures c.requires.marks c.requires.stands.sums c.verdict.ensures.1 in
    (summed_cells cell (topics_under desk marks) c.args.i c.args.j c.totals.result told, ap verdict (told ∙ sym judged) ∙ sym c.verdict.ensures.2 ∙ c.in-Close.is)

pub returns-in-Ok-clause-answer : goal.returns-in-Ok-clause-answer
returns-in-Ok-clause-answer g c =
    let table = c.args.self.now in
    let name = g.M.Measure.measured table.measure in
    let cell = g.M.Measure.cell_of table.measure in
    let bounds = g.M.Measure.bounds_of table.measure in
    let desk = c.args.desk.now in
    let marks = c.args.marks.now.rows in
    let level = c.args.level in
    let i = c.args.i in
    let j = c.args.j in
    let made = c.in-Ok.certificate in
    let valid : IsMeasure name = subst IsMeasure (c.name-name.ensures.name ∙ ap g.M.Measure.measured c.measure-measure.ensures) c.name-name.ensures.built in
    let laws = g.met.M.Measure.laws table.measure valid in
    let sums = c.verdict.ensures.0 in
    let told = standing_sums name cell bounds desk marks i j sums (table_sums table) laws c.valid.ensures c.requires.marks c.requires.stands.sums c.verdict.ensures.1 in
    elim c.match-verdict.branch [
      | in-Above w ↦ answered_by cell name desk marks level i j made sums Above told (sym w.in-Above.is ∙ c.verdict.ensures.2)
          (IfOk-at_ok _ (sym w.made-is ∙ c.in-Ok.is) w.above-made.ensures marks c.requires.marks c.requires.stands)
      | in-Below w ↦ answered_by cell name desk marks level i j made sums Below told (sym w.in-Below.is ∙ c.verdict.ensures.2)
          (IfOk-at_ok _ (sym w.made-is ∙ c.in-Ok.is) w.above-made-in-Below.ensures marks c.requires.marks c.requires.stands)
      | in-Equal w ↦ answered_by cell name desk marks level i j made sums Equal told (sym w.in-Equal.is ∙ c.verdict.ensures.2)
          (IfOk-at_ok _ (sym w.made-is ∙ c.in-Ok.is) w.equal-made.ensures marks c.requires.marks c.requires.stands)
      | in-Open w ↦ answered_by cell name desk marks level i j made sums Open told (sym w.in-Open.is ∙ c.verdict.ensures.2)
          (subst (λ (ms : List (List Mark)). SaysOpen name desk ms level i j made) w.rows.ensures
          (IfOk-at_ok _ (sym w.made-is ∙ c.in-Ok.is) w.open-made.ensures))
    ]

pub returns-in-Ok-clause-certificate : goal.returns-in-Ok-clause-certificate
returns-in-Ok-clause-certificate g c =
    let table = c.args.self.now in
    let name = g.M.Measure.measured table.measure in
    let cell = g.M.Measure.cell_of table.measure in
    let bounds = g.M.Measure.bounds_of table.measure in
    let runs = c.requires.stands.sums.runs in
    let valid : IsMeasure name = subst IsMeasure (c.name-name.ensures.name ∙ ap g.M.Measure.measured c.measure-measure.ensures) c.name-name.ensures.built in
    cells_certificate name cell bounds c.args.desk.now c.args.marks.now.rows c.args.level c.args.i c.args.j c.in-Ok.certificate valid (g.met.M.Measure.laws table.measure valid) c.valid.ensures c.requires.marks c.requires.level
    (subst (λ n. c.args.i < n) runs c.requires.first) (subst (λ n. c.args.j < n) runs c.requires.second) (returns-in-Ok-clause-answer g c)
