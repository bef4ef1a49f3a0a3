use Rattle.std.proofs.Common.{take}
use Rattle.std.specs.List.{AllZip}
use Rattle.pair_table.specs.Kept.{IsCellOf}
use Rattle.pair_table.proofs.table.Table.cells.Given as goal

abbrev pub invariant-loop-topic : goal.invariant-loop-topic
invariant-loop-topic g l = record { beside : AllZip (IsCellOf l.pair.runs l.pair.first l.pair.second) l.cells.items (take l.topic l.self.topics) }
