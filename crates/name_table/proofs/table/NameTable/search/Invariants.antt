use Rattle.name_table.proofs.Finding.{ArePassed}
use Rattle.name_table.proofs.table.NameTable.search.Given as goal

abbrev pub invariant-loop-at : goal.invariant-loop-at
invariant-loop-at g l = ArePassed (g.N.Names.names l.names) l.self.slots.items l.name l.start l.at
