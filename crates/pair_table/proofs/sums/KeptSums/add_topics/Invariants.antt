use Rattle.std.proofs.Common.{◌≡◌, take}
use Rattle.pair_table.specs.Kept.{kept_sums}
use Rattle.pair_table.proofs.sums.KeptSums.add_topics.Given as goal

abbrev pub invariant-loop-topic : goal.invariant-loop-topic
invariant-loop-topic l = record { sums : l.self ≡ kept_sums l.runs (take l.topic l.topics) }
