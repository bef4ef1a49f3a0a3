use Rattle.std.proofs.Common.{rules}
use Rattle.name_table.specs.Table.{hash_of}
use Rattle.name_table.proofs.hash.hash.Goals as goal

pub returns : goal.returns
unfolding hash_of
returns c = search rules
