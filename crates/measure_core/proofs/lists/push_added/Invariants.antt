use Rattle.std.proofs.Common.{◌≡◌, ◌++◌, false, length}
use Rattle.std.specs.Prelude.{slice_index_or, ◌&&◌}
use Rattle.desk_model.specs.Mark.{is_unjudged, mark_at}
use Rattle.measure_core.specs.Lists.{added_documents}
use Rattle.measure_core.proofs.Pushing.{left_from}
use Rattle.measure_core.proofs.lists.push_added.Given as goal

abbrev pub invariant-loop-doc : goal.invariant-loop-doc
invariant-loop-doc l = record {
  made : l.docs.items ++ left_from (λ doc. is_unjudged (mark_at l.marks doc) && slice_index_or l.truth doc false) (length l.marks) l.doc ≡ l.initial.docs.items ++ added_documents l.marks (λ doc. slice_index_or l.truth doc false);
}
