use Rattle.std.proofs.Common.{take}
use Rattle.marked_lists.specs.Hidden.{AreHidden}
use Rattle.marked_lists.proofs.own.hide_first.Given as goal

abbrev pub invariant-loop-doc : goal.invariant-loop-doc
invariant-loop-doc l = AreHidden (take l.doc-index l.doc-items) l.initial.marks l.marks
