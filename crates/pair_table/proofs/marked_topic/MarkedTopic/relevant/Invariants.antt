use Rattle.std.proofs.Common.{◌≡◌, false}
use Rattle.std.specs.Prelude.{slice_index_or, ◌&&◌}
use Rattle.desk_model.specs.Mark.{is_unjudged, mark_at}
use Rattle.pair_table.proofs.Listing.{passed}
use Rattle.pair_table.proofs.marked_topic.MarkedTopic.relevant.Given as goal

abbrev pub invariant-loop-doc : goal.invariant-loop-doc
invariant-loop-doc l = record {
  made : l.names.items ≡ passed l.book.docs (λ doc. is_unjudged (mark_at l.marks doc) && slice_index_or l.truth doc false) l.doc;
}
