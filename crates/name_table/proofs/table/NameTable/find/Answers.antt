use Rattle.std.proofs.Common.{sym, ◌∙◌}
use Rattle.name_table.proofs.table.NameTable.find.Goals as goal

pub returns-in-Found : goal.returns-in-Found
returns-in-Found g c = sym c.in-Found.ensures

pub returns-in-Vacant : goal.returns-in-Vacant
returns-in-Vacant g c = sym c.in-Vacant.ensures.1

pub returns-in-Beyond : goal.returns-in-Beyond
returns-in-Beyond g c = c.get.ensures ∙ c.in-Beyond.ensures.1
