use Rattle.std.proofs.Common.{◌≡◌, ◌+◌, count_by, true, false}
use Rattle.std.specs.Slice.Iter.{chunks_rest, chunks_size}
use Rattle.desk_model.specs.Completion.{picked_value}
use Rattle.topic_counts.proofs.topic.all_documents.Given as goal

abbrev pub invariant-loop-block : goal.invariant-loop-block
invariant-loop-block l = record {
  size : chunks_size l.block-iterator ≡ 224;
  least : l.counts.relevant + count_by (picked_value false) (chunks_rest l.block-iterator) ≡ count_by (picked_value false) l.marks;
  most : l.counts.relevant + l.counts.unjudged + count_by (picked_value true) (chunks_rest l.block-iterator) ≡ count_by (picked_value true) l.marks;
}
