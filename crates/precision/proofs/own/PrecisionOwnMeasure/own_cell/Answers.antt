use Rattle.std.proofs.Common.{◌≡◌, sym, subst}
use Rattle.desk_model.specs.declared.types.MeasureName.TheVariants.{Precision}
use Rattle.measure_core.specs.Laws.{CellIsModest}
use Rattle.measure_core.proofs.Exact.{exact_laws}
use Rattle.precision.proofs.own.PrecisionOwnMeasure.own_cell.Goals as goal

pub returns-clause-cell : goal.returns-clause-cell
returns-clause-cell c = λ marks a b told.
    let k : c.args.self.now ≡ c.self.inside.k = cc in
    rw k (c.cell_between.ensures c.self.inside.k marks a b c.self.invariant told.met (rw k at told.first) (rw k at told.second))

pub returns-clause-modest : goal.returns-clause-modest
returns-clause-modest c =
    let marks = c.requires.0 in
    let a = c.requires.1 in
    let b = c.requires.2 in
    let told = c.requires.3 in
    let k : c.args.self.now ≡ c.self.inside.k = cc in
    subst CellIsModest (sym (c.cell_between.ensures c.self.inside.k marks a b c.self.invariant told.met (rw k at told.first) (rw k at told.second)))
    ((exact_laws (Precision c.self.inside.k) c.self.invariant tt).cell_modest marks a b told.met)
