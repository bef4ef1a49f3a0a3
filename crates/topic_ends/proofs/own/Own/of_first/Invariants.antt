use Rattle.std.proofs.Common.{take}
use Rattle.topic_ends.specs.Own.{CountsOwn}
use Rattle.topic_ends.proofs.own.Own.of_first.Given as goal

abbrev pub invariant-loop-depth : goal.invariant-loop-depth
invariant-loop-depth l = CountsOwn l.pair.marks.now (take l.depth l.pair.a.now) (take l.depth l.pair.b.now) l.own
