use Rattle.name_table.specs.Table.{AreTaken}
use Rattle.name_table.proofs.table.NameTable.free.Given as goal

abbrev pub invariant-loop-at : goal.invariant-loop-at
invariant-loop-at l = AreTaken l.self.slots.items l.start l.at
