use Rattle.std.proofs.Common.{◌≡◌, take, map}
use Rattle.topic_universe.proofs.names.copied.Given as goal

abbrev pub invariant-loop-i : goal.invariant-loop-i
invariant-loop-i l = l.copies.items ≡ map (λ pair. pair.0.now) (take l.i l.pairs)
