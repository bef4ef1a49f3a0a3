use Rattle.std.proofs.Common.{◌<◌, length}
use Rattle.name_table.specs.declared.table.TheConstants.{REACH}
use Rattle.name_table.specs.Finds.{Finds}
use Rattle.name_table.proofs.table.built.Given as goal

abbrev pub invariant-loop-i : goal.invariant-loop-i
invariant-loop-i g l = Finds (g.N.Names.names l.names) l.i l.table × (REACH < length l.table.slots.items)
