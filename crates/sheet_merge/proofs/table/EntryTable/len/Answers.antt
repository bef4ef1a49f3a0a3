use Rattle.std.proofs.Common.{length, ap, subst, arith}
use Rattle.sheet_merge.specs.Table.{AreGathered}
use Rattle.sheet_merge.proofs.Gathering.{length-placed_entries}
use Rattle.sheet_merge.proofs.table.EntryTable.len.Goals as goal

pub returns-clause-count : goal.returns-clause-count
returns-clause-count c =
    let n = ap length c.self.view_is in
    omega (arith, n, length-placed_entries c.self.inside.places c.self.inside.entries.items c.self.invariant.matched, c.self.inside.entries.ok)

pub returns-clause-gathered : goal.returns-clause-gathered
returns-clause-gathered c = subst AreGathered c.self.view_is c.self.invariant.gathered
