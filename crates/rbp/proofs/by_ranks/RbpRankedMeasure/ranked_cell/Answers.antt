use Rattle.std.proofs.Common.{sym, subst}
use Rattle.desk_model.specs.MeasureText.{IsPersistence}
use Rattle.measure_core.specs.Laws.{CellIsModest}
use Rattle.rbp.specs.Laws as laws
use Rattle.rbp.specs.Persistence.{Persistence}
use Rattle.rbp.proofs.by_ranks.RbpRankedMeasure.ranked_cell.Goals as goal

pub returns-clause-modest : goal.returns-clause-modest
returns-clause-modest c =
    let r = c.args.self.now in
    let valid : IsPersistence r.top r.bottom = subst (λ (p : Persistence). IsPersistence p.top p.bottom) c.self.view_is c.self.invariant.persistence in
    subst CellIsModest (sym c.cell_by.ensures) ((laws.laws r.top r.bottom valid).cell_modest c.args.apart.now.marks.now c.args.apart.now.a.now c.args.apart.now.b.now c.args.apart.now.met)
