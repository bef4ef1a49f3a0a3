use Rattle.pair_table.proofs.Named.{table_determined}
use Rattle.pair_table.proofs.laws.numbers_are_one.Goals as goal

pub returns : goal.returns
returns c = table_determined
