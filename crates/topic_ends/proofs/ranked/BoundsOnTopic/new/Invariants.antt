use Rattle.std.proofs.Common.{◌≡◌, length}
use Rattle.topic_ends.specs.RunBounds.{AreBoundsOn}
use Rattle.topic_ends.proofs.ranked.BoundsOnTopic.new.Given as goal

abbrev pub invariant-loop-run : goal.invariant-loop-run
invariant-loop-run l = record {
  count : length l.bounds.items ≡ l.run;
  known : AreBoundsOn l.desk l.topic l.own l.bounds.items;
}
