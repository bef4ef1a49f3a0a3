use Rattle.std.proofs.Common.{◌≡◌, ◌++◌, length}
use Rattle.std.specs.Prelude.{◌&&◌}
use Rattle.desk_model.specs.Mark.{is_unjudged, mark_at}
use Rattle.measure_core.specs.Lists.{added_documents}
use Rattle.measure_core.proofs.Pushing.{left_from}
use Rattle.precision_candidates.specs.Classes.{class_truth}
use Rattle.average_precision.proofs.pushed.push_in.Given as goal

abbrev pub invariant-loop-doc : goal.invariant-loop-doc
invariant-loop-doc l = record {
  made : l.docs.items ++ left_from (λ doc. is_unjudged (mark_at l.run.run.on.marks.now doc) && class_truth l.high l.run.classes.now doc) (length l.run.run.on.marks.now) l.doc ≡ l.initial.docs.items ++ added_documents l.run.run.on.marks.now (class_truth l.high l.run.classes.now);
}
