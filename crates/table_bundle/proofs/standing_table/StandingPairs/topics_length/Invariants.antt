use Rattle.std.proofs.Common.{◌≡◌, ◌*◌, ◌≤◌, take}
use Rattle.std.specs.List.{sum}
use Rattle.table_bundle.specs.Lengths.{topic_lengths}
use Rattle.table_bundle.proofs.standing_table.StandingPairs.topics_length.Given as goal

abbrev pub invariant-loop-topic : goal.invariant-loop-topic
invariant-loop-topic g l = record {
  bytes : l.bytes ≡ sum (take l.topic (topic_lengths (g.M.Measure.measured l.self.standing.now.table.now.measure) l.self.standing.now.desk.now l.self.standing.now.marks.now l.self.pairs.now));
  few : l.bytes ≤ 75078653264400 * l.topic;
}
