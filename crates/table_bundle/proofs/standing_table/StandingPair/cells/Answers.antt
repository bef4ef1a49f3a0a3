use Rattle.std.proofs.Common.{ap, sym, subst, ◌∙◌}
use Rattle.std.specs.List.{AllZip}
use Rattle.std.proofs.lemmas.Result.{IfOk-weaker}
use Rattle.desk_model.specs.MeasureText.{IsMeasure}
use Rattle.pair_table.specs.Kept.{IsCellOf}
use Rattle.table_bundle.proofs.Standing.{standing_cells}
use Rattle.table_bundle.proofs.standing_table.StandingPair.cells.Goals as goal

pub returns : goal.returns
returns g c =
    let s = c.args.self.now.standing.now in
    let table = s.table.now in
    let a = c.args.self.now.pair.first in
    let b = c.args.self.now.pair.second in
    let name = g.M.Measure.measured table.measure in
    let cell = g.M.Measure.cell_of table.measure in
    let bounds = g.M.Measure.bounds_of table.measure in
    let valid : IsMeasure name = subst IsMeasure (c.name-name.ensures.name ∙ ap g.M.Measure.measured c.measure-measure.ensures) c.name-name.ensures.built in
    let laws = g.met.M.Measure.laws table.measure valid in
    let same = c.run_count.ensures.count ∙ sym s.stands.sums.runs in
    IfOk-weaker c.cells.result _ _ (λ cells zipped.
    standing_cells name cell bounds s.desk.now s.marks.now table laws c.run_count.ensures.desk s.marked s.stands a b c.args.self.now.known.first c.args.self.now.known.second cells.items
    (subst (λ n. AllZip (IsCellOf n a b) cells.items table.topics) same zipped)) c.cells.ensures
