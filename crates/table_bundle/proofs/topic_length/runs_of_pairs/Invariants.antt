use Rattle.std.proofs.Common.{◌≡◌, map, take}
use Rattle.table_bundle.specs.Drafts.{runs_of}
use Rattle.table_bundle.proofs.topic_length.runs_of_pairs.Given as goal

abbrev pub invariant-loop-pair : goal.invariant-loop-pair
invariant-loop-pair l = l.made.items ≡ map runs_of (take l.pair-index l.pairs)
