use Rattle.std.proofs.Common.{◌≡◌, length}
use Rattle.topic_ends.specs.Counted.{AreCountsOf}
use Rattle.bundle_verifier.proofs.room.count_topics.Given as goal

abbrev pub invariant-loop-topic : goal.invariant-loop-topic
invariant-loop-topic l = record {
  count : length l.counts.items ≡ l.topic;
  known : AreCountsOf l.marks l.counts.items;
}
