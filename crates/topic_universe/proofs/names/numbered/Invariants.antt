use Rattle.std.proofs.Common.{◌≡◌, take, map}
use Rattle.std.specs.List.{range_with_len}
use Rattle.topic_universe.proofs.names.numbered.Given as goal

abbrev pub invariant-loop-i : goal.invariant-loop-i
invariant-loop-i l = record { names : map (λ pair. pair.0.now) l.pairs.items ≡ take l.i l.names; numbers : map (λ pair. pair.1) l.pairs.items ≡ range_with_len 0 l.i }
