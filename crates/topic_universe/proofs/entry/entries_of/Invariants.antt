use Rattle.std.proofs.Common.{◌≡◌, take, map}
use Rattle.topic_universe.specs.Entry.{row_of}
use Rattle.topic_universe.proofs.entry.entries_of.Given as goal

abbrev pub invariant-loop-i : goal.invariant-loop-i
invariant-loop-i l = map row_of l.entries.items ≡ take l.i l.rows
