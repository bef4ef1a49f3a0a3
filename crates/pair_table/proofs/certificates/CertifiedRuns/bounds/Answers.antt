use Rattle.std.proofs.Common.{ℤ, List, pos, length, map, ap, sym, subst, ◌∙◌}
use Rattle.std.specs.Prelude.{if◌then◌else◌}
use Rattle.std.specs.List.{AllZip}
use Rattle.std.proofs.lemmas.Result.{IfOk-weaker}
use Rattle.desk_model.specs.Desk.{topics_under}
use Rattle.desk_model.specs.Extremes.{Ends}
use Rattle.desk_model.specs.MeasureText.{IsMeasure}
use Rattle.desk_model.proofs.Nested.{length-zipped}
use Rattle.measure_core.specs.Made.{ends_of}
use Rattle.measure_core.specs.declared.cell.Cell.{Cell}
use Rattle.pair_table.specs.Evidence.{bounds_of}
use Rattle.pair_table.specs.Kept.{TopicNumbers, IsCellOf}
use Rattle.pair_table.proofs.DeskTopics.{topics_met}
use Rattle.pair_table.proofs.Swapped.{cells_stand}
use Rattle.pair_table.proofs.certificates.CertifiedRuns.bounds.Goals as goal

pub cells-requires : goal.cells-requires
cells-requires g c = c.run_count.ensures.count ∙ sym c.args.self.now.runs

pub bounds_of_cells-requires : goal.bounds_of_cells-requires
bounds_of_cells-requires g c =
    let runs = c.args.self.now in
    ap length c.deref.ensures.value ∙ sym (length-zipped (IsCellOf c.run_count.result runs.first runs.second) c.in_ok-cells.cells.items runs.table.now.topics c.in_ok-cells.ensures) ∙ runs.topics

pub returns : goal.returns
returns g c =
    let runs = c.args.self.now in
    let table = runs.table.now in
    let desk = runs.desk.now in
    let i = runs.first in
    let j = runs.second in
    let name = g.M.Measure.measured table.measure in
    let cell = g.M.Measure.cell_of table.measure in
    let bounds = g.M.Measure.bounds_of table.measure in
    let high : Ends → ℤ = λ e. if c.args.upper then e.most_hi else pos 0 in
    let cells : List Cell = c.in_ok-cells.cells.items in
    let valid : IsMeasure name = subst IsMeasure (c.name-name.ensures.name ∙ ap g.M.Measure.measured c.measure-measure.ensures) c.name-name.ensures.built in
    let laws = g.met.M.Measure.laws table.measure valid in
    IfOk-weaker c.bounds_of_cells.result _ _ (λ listed is marks known stands.
    is ∙ ap (λ l. bounds_of high desk (map ends_of l)) c.deref.ensures.value
    ∙ ap (bounds_of high desk) (cells_stand name cell bounds laws (length desk.runs) i j cells (topics_under desk marks) (topics_met desk marks c.run_count.ensures.desk known j i runs.second_known runs.first_known)
    (subst (λ (ts : List TopicNumbers). AllZip (IsCellOf (length desk.runs) i j) cells ts) stands.topics (subst (λ n. AllZip (IsCellOf n i j) cells table.topics) c.run_count.ensures.count c.in_ok-cells.ensures)))) c.bounds_of_cells.ensures
