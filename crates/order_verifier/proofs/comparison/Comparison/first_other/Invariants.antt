use Rattle.order_verifier.specs.Refusal.{topics_in}
use Rattle.order_verifier.proofs.ListNames.{UnjudgedBefore}
use Rattle.order_verifier.proofs.comparison.Comparison.first_other.Given as goal

abbrev pub invariant-loop-document : goal.invariant-loop-document
invariant-loop-document l = UnjudgedBefore (topics_in l.self) l.topic l.documents.names l.document
