use Rattle.std.proofs.Common.{take}
use Rattle.topic_counts.specs.Ends.{IsNear}
use Rattle.topic_ends.proofs.Choices.{IsLowOf}
use Rattle.topic_ends.proofs.reciprocal.least_low.Given as goal

abbrev pub invariant-loop-doc : goal.invariant-loop-doc
invariant-loop-doc l = record {
  low : IsLowOf l.marks l.a l.b (take l.doc-index l.doc-items) l.low;
  near : IsNear l.low;
}
