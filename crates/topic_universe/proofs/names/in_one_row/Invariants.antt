use Rattle.std.proofs.Common.{◌≡◌}
use Rattle.topic_universe.proofs.Rows.{first_names}
use Rattle.topic_universe.proofs.names.in_one_row.Given as goal

abbrev pub invariant-loop-pair : goal.invariant-loop-pair
invariant-loop-pair l = l.names ≡ first_names l.pairs l.pair-index
