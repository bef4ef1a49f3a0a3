use Rattle.std.proofs.Common.{take}
use Rattle.std.specs.List.{AllByRecursion, zip}
use Rattle.order_verifier.specs.CompletionEnds.{IsHighEnd, IsLowEnd}
use Rattle.order_verifier.specs.Refusal.{AreCompletions, topics_in}
use Rattle.order_verifier.proofs.EndSums.{Added}
use Rattle.order_verifier.proofs.comparison.Comparison.end_sums.Given as goal

abbrev pub invariant-loop-topic : goal.invariant-loop-topic
invariant-loop-topic g l = record {
  unjudged : AllByRecursion AreCompletions (take l.topic (zip (g.L.ListRows.witnesses l.lists) (topics_in l.self)));
  low : Added (IsLowEnd l.self) (zip (g.L.ListRows.witnesses l.lists) (topics_in l.self)) l.topic l.low;
  high : Added (IsHighEnd l.self) (zip (g.L.ListRows.witnesses l.lists) (topics_in l.self)) l.topic l.high;
}
