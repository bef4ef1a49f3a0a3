use Rattle.std.proofs.Common.{◌≡◌, ◌+◌, ◌≤◌, take, count_by, true, false}
use Rattle.desk_model.specs.Completion.{picked_value}
use Rattle.topic_counts.proofs.topic.block_documents.Given as goal

abbrev pub invariant-loop-mark : goal.invariant-loop-mark
invariant-loop-mark l = record {
  least : l.relevant ≡ count_by (picked_value false) (take l.mark-index l.marks);
  most : l.relevant + l.unjudged ≡ count_by (picked_value true) (take l.mark-index l.marks);
  few : l.relevant + l.unjudged ≤ l.mark-index;
}
