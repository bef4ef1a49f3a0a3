use Rattle.std.proofs.Common.{subst}
use Rattle.pair_table.specs.Kept.{Kept, AreSumsOf}
use Rattle.pair_table.proofs.table.Table.totals.Goals as goal

pub returns : goal.returns
returns g c = subst (λ (k : Kept _). AreSumsOf k.runs k.totals c.args.i c.args.j c.totals.result) c.self.view_is c.totals.ensures
