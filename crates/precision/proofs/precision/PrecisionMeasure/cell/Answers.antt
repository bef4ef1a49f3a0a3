use Rattle.std.proofs.Common.{◌≡◌}
use Rattle.precision.proofs.precision.PrecisionMeasure.cell.Goals as goal

pub returns-clause-cell : goal.returns-clause-cell
returns-clause-cell g c =
    let k : c.args.self.now ≡ c.self.inside.k = cc in
    rw k (c.cell_between.ensures c.self.inside.k c.args.marks.now c.args.a.now c.args.b.now c.self.invariant c.requires c.own_counts.ensures.first c.own_counts.ensures.second)
