use Rattle.std.proofs.Common.{◌≡◌, ◌<◌, ◌^◌}
use Rattle.topic_universe.proofs.Rows.{first_bytes}
use Rattle.topic_universe.proofs.names.row_bytes.Given as goal

abbrev pub invariant-loop-pair : goal.invariant-loop-pair
invariant-loop-pair l = record { sum : l.bytes ≡ first_bytes l.pairs l.pair-index; fits : l.bytes < 2 ^ 32 }
