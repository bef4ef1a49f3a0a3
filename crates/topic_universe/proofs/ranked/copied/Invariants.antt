use Rattle.std.proofs.Common.{◌≡◌, take}
use Rattle.topic_universe.proofs.ranked.copied.Given as goal

abbrev pub invariant-loop-i : goal.invariant-loop-i
invariant-loop-i l = l.copies ≡ take l.i l.names
