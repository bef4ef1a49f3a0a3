use Rattle.std.proofs.Common.{◌≡◌, sym, subst, ◌∙◌}
use Rattle.measure_core.specs.Laws.{CellIsModest}
use Rattle.measure_core.specs.Pairs.{ranking_on}
use Rattle.measure_core.proofs.RunPairs.{met_pair}
use Rattle.average_precision.specs.Laws as laws
use Rattle.average_precision.specs.Numbers.{average_cell}
use Rattle.average_precision.proofs.cells.CrossedRuns.cell.Goals as goal

pub of-requires : goal.of-requires
of-requires c =
    let on = c.args.self.now.kept.on in
    let t = on.rankings.now in
    let marks = on.marks.now in
    let a = ranking_on t c.args.pair.first in
    let b = ranking_on t c.args.pair.second in
    let is : c.cell_of.result ≡ average_cell marks a b = c.cell_of.ensures marks a b c.leasts.ensures.least c.leasts.ensures.swapped in
    subst CellIsModest (sym is) (laws.laws.cell_modest marks a b (met_pair marks t c.args.pair.first c.args.pair.second on.met c.requires.first c.requires.second))

pub returns-clause-cell : goal.returns-clause-cell
returns-clause-cell c =
    let on = c.args.self.now.kept.on in
    let t = on.rankings.now in
    c.of.ensures ∙ c.cell_of.ensures on.marks.now (ranking_on t c.args.pair.first) (ranking_on t c.args.pair.second) c.leasts.ensures.least c.leasts.ensures.swapped

pub returns-clause-modest : goal.returns-clause-modest
returns-clause-modest c =
    let on = c.args.self.now.kept.on in
    let t = on.rankings.now in
    let a = ranking_on t c.args.pair.first in
    let b = ranking_on t c.args.pair.second in
    subst CellIsModest (sym (returns-clause-cell c)) (laws.laws.cell_modest on.marks.now a b (met_pair on.marks.now t c.args.pair.first c.args.pair.second on.met c.requires.first c.requires.second))
