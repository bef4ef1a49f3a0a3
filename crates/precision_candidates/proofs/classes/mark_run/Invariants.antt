use Rattle.std.proofs.Common.{drop}
use Rattle.measure_laws.specs.Candidates.{open_docs}
use Rattle.precision_candidates.specs.Classes.{AreMarked}
use Rattle.precision_candidates.proofs.classes.mark_run.Given as goal

abbrev pub invariant-loop-doc : goal.invariant-loop-doc
invariant-loop-doc l = AreMarked l.run.on.marks.now (open_docs l.run.on.marks.now l.run.on.docs.now) (open_docs l.run.on.marks.now (drop l.doc-index l.run.on.docs.now)) l.run.chosen.high.count l.run.chosen.low.count l.to_take l.to_leave l.classes
