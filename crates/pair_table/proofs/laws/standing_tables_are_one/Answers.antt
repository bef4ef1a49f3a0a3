use Rattle.std.proofs.Common.{sym, subst}
use Rattle.pair_table.specs.Kept.{StandsFor}
use Rattle.pair_table.proofs.Changing.{standing_are_one}
use Rattle.pair_table.proofs.laws.standing_tables_are_one.Goals as goal

pub returns : goal.returns
returns g c desk marks table other same h k =
    standing_are_one (g.M.Measure.cell_of table.measure) (g.M.Measure.bounds_of table.measure) desk marks table other same h
    (subst (λ m. StandsFor (g.M.Measure.cell_of m) (g.M.Measure.bounds_of m) desk marks other) (sym same) k)
