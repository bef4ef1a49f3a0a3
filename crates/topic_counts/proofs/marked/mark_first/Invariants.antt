use Rattle.std.proofs.Common.{take}
use Rattle.topic_counts.specs.Seen.{AreMarksIn}
use Rattle.topic_counts.proofs.marked.mark_first.Given as goal

abbrev pub invariant-loop-doc : goal.invariant-loop-doc
invariant-loop-doc l = AreMarksIn (take l.doc-index l.doc-items) l.marks l.seen
