use Rattle.std.proofs.Common.{◌≡◌, ◌<◌, length, take}
use Rattle.std.specs.Prelude.{All}
use Rattle.topic_universe.specs.Names.{with_names, numbered_names}
use Rattle.topic_universe.proofs.universe.add_ranked.Given as goal

abbrev pub invariant-loop-i : goal.invariant-loop-i
invariant-loop-i l = record { names : l.names ≡ with_names l.fn.names (take l.i l.ranked); within : All (λ n. n < length l.names) l.numbers.items; numbers : numbered_names l.names l.numbers.items ≡ take l.i l.ranked }
