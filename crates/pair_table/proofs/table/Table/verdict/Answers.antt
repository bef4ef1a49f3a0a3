use Rattle.std.proofs.Common.{subst}
use Rattle.pair_table.specs.Kept.{Kept, AreSumsOf}
use Rattle.pair_table.proofs.table.Table.verdict.Goals as goal

pub returns : goal.returns
returns g c =
    let told = c.verdict.ensures in
    (told.0, subst (λ (k : Kept _). AreSumsOf k.runs k.totals c.args.i c.args.j told.0) c.self.view_is told.1, told.2)
