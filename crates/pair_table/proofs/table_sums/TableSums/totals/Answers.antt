use Rattle.std.proofs.Common.{List, subst}
use Rattle.desk_model.specs.declared.types.Totals.{Totals}
use Rattle.pair_table.specs.Kept.{HeldSums, AreSumsOf}
use Rattle.pair_table.proofs.table_sums.TableSums.totals.Goals as goal

pub returns : goal.returns
returns g c =
    let held = c.self.inside in
    let own = subst (λ (totals : List Totals). AreSumsOf held.runs totals c.args.i c.args.j c.sums_in.result) c.totals.ensures c.sums_in.ensures in
    subst (λ (s : HeldSums _). AreSumsOf s.runs s.totals c.args.i c.args.j c.sums_in.result) c.self.view_is own
