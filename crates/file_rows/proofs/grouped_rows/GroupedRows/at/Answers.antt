use Rattle.std.proofs.Common.{length, ap, sym, arith, refl}
use Rattle.file_rows.proofs.Zipped.{in_place, held, part-le}
use Rattle.file_rows.proofs.RowFiles.{holding}
use Rattle.file_rows.proofs.grouped_rows.GroupedRows.at.Goals as goal

pub index-requires : goal.index-requires
index-requires g c =
    let lt = in_place (holding c.self.invariant c.self.view_is) c.args.t c.requires in omega (arith, lt)

pub returns-clause-rows : goal.returns-clause-rows
returns-clause-rows g c =
    sym (held (holding c.self.invariant c.self.view_is) c.args.t c.index.result.now c.requires c.index.ensures)

pub returns-clause-within : goal.returns-clause-within
returns-clause-within g c =
    let same = ap length (held (holding c.self.invariant c.self.view_is) c.args.t c.index.result.now c.requires c.index.ensures) in
    omega (arith, same, part-le length c.args.self.now c.args.t refl)
