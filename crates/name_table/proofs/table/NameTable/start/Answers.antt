use Rattle.std.proofs.Common.{rules}
use Rattle.name_table.specs.Table.{start_of}
use Rattle.name_table.proofs.table.NameTable.start.Goals as goal

pub returns-clause-start : goal.returns-clause-start
unfolding start_of
returns-clause-start c = search rules
