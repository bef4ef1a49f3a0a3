use Rattle.std.proofs.Common.{length, ap, arith}
use Rattle.sheet_merge.proofs.Unpacking.{length-unpacked}
use Rattle.sheet_merge.proofs.rows.SheetRows.len.Goals as goal

pub returns : goal.returns
returns c =
    let n = ap length c.self.view_is in
    omega (arith, n, length-unpacked c.self.inside.names c.self.inside.written.items c.self.invariant.matched, c.self.inside.written.ok)
