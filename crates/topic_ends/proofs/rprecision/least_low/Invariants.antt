use Rattle.std.proofs.Common.{◌+◌, take}
use Rattle.topic_counts.specs.Ends.{IsNear}
use Rattle.topic_ends.specs.Own.{CountsOwn}
use Rattle.topic_ends.proofs.Numbers.{IsLowTo}
use Rattle.topic_ends.proofs.rprecision.least_low.Given as goal

abbrev pub invariant-loop-chosen : goal.invariant-loop-chosen
invariant-loop-chosen l = record {
  own : CountsOwn l.pair.marks.now (take (l.all.relevant + l.chosen) l.pair.a.now) (take (l.all.relevant + l.chosen) l.pair.b.now) l.own;
  low : IsLowTo l.pair.marks.now l.pair.a.now l.pair.b.now l.chosen l.low;
  near : IsNear l.low;
}
