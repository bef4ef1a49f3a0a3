use Rattle.pair_table.proofs.Named.{table_named}
use Rattle.pair_table.proofs.laws.tables_have_named_numbers.Goals as goal

pub returns : goal.returns
returns c = table_named
