use Rattle.std.proofs.Common.{List, length, ap, sym, subst, ◌∙◌}
use Rattle.desk_model.specs.MeasureText.{IsMeasure}
use Rattle.desk_model.specs.Pairs.{pairs_of}
use Rattle.desk_model.specs.declared.types.Mark.{Mark}
use Rattle.measure_core.specs.Pairs.{AreAllMet, DeskTopic, pair_cells, run_numbers, runs_on}
use Rattle.pair_table.specs.TopicUnder.{place_of}
use Rattle.pair_table.proofs.numbers.evaluate_cells.Goals as goal

pub cells-requires-clause-measure : goal.cells-requires-clause-measure
cells-requires-clause-measure g c = subst IsMeasure c.name-name.ensures.name c.name-name.ensures.built

pub cells-requires-clause-met : goal.cells-requires-clause-met
cells-requires-clause-met g c = subst (AreAllMet c.marks.result.now) (sym c.rankings-rankings.ensures) c.marks.ensures.met

pub cells-requires-clause-count : goal.cells-requires-clause-count
cells-requires-clause-count g c = c.requires ∙ sym (ap (λ (t : DeskTopic). length (pairs_of (run_numbers (runs_on t)))) c.rankings-rankings.ensures)

pub returns-clause-cells : goal.returns-clause-cells
returns-clause-cells g c =
    let cell = g.M.Measure.cell_of c.args.measure.now in
    c.cells.ensures.cells ∙ ap (pair_cells (cell c.marks.result.now)) c.rankings-rankings.ensures
    ∙ ap (λ (m : List Mark). pair_cells (cell m) (place_of c.args.topic.now)) c.marks.ensures.marks
