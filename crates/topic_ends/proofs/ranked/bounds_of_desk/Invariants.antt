use Rattle.std.proofs.Common.{◌≡◌, length}
use Rattle.topic_ends.specs.RunBounds.{AreBoundsOf}
use Rattle.topic_ends.proofs.ranked.bounds_of_desk.Given as goal

abbrev pub invariant-loop-topic : goal.invariant-loop-topic
invariant-loop-topic l = record {
  count : length l.bounds.items ≡ l.topic;
  known : AreBoundsOf l.desk l.marks l.bounds.items;
}
