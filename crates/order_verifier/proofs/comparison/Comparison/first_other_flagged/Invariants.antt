use Rattle.std.proofs.Common.{take}
use Rattle.order_verifier.specs.Refusal.{topics_in}
use Rattle.order_verifier.specs.Rows.{AreFlags}
use Rattle.order_verifier.proofs.ListNames.{UnjudgedBefore}
use Rattle.order_verifier.proofs.comparison.Comparison.first_other_flagged.Given as goal

abbrev pub invariant-loop-document : goal.invariant-loop-document
invariant-loop-document l = record {
  unjudged : UnjudgedBefore (topics_in l.self) l.topic l.documents.names l.document;
  flags : AreFlags l.documents.docs (take l.document l.documents.names) l.flags;
}
