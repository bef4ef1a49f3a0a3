use Rattle.std.proofs.Common.{take}
use Rattle.topic_counts.proofs.Scan.{OwnUpTo}
use Rattle.topic_counts.proofs.counts.own_documents.Given as goal

abbrev pub invariant-loop-doc : goal.invariant-loop-doc
invariant-loop-doc l = OwnUpTo l.marks l.doc-items (take l.k l.other) l.doc-index l.counts
