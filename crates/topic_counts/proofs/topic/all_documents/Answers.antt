use Rattle.std.proofs.Common.{◌+◌, length, true, false, ◌∙◌, le_refl}
use Rattle.std.specs.Slice.Iter.{chunks_rest, chunks_size}
use Rattle.topic_counts.proofs.MarkCounts.{all_counted, block_short, block_counted, all_few, few_fit, part_few, most_regrouped}
use Rattle.topic_counts.proofs.topic.all_documents.Goals as goal

pub block_documents-more-requires : goal.block_documents-more-requires
block_documents-more-requires c = block_short (length c.in-Some.block.now) (chunks_size c.loop-block.block-iterator) (length (chunks_rest c.loop-block.block-iterator)) c.in-Some.ensures.steps.1.1 c.loop-block.invariant.size

pub overflow_add-counts : goal.overflow_add-counts
overflow_add-counts c =
    let count = c.loop-block.counts.relevant + c.block_documents-more.result.relevant in
    few_fit count count (length c.args.marks.now) (le_refl count)
    (all_few false c.args.marks.now (chunks_rest c.next.new.self) count
    (block_counted false c.args.marks.now (chunks_rest c.loop-block.block-iterator) c.in-Some.block.now (chunks_rest c.next.new.self) c.loop-block.counts.relevant c.block_documents-more.result.relevant c.in-Some.ensures.steps.1.0
    c.block_documents-more.ensures.relevant c.loop-block.invariant.least)) c.requires

pub overflow_add-counts-in-loop-block : goal.overflow_add-counts-in-loop-block
overflow_add-counts-in-loop-block c =
    let count = c.loop-block.counts.relevant + c.loop-block.counts.unjudged + (c.block_documents-more.result.relevant + c.block_documents-more.result.unjudged) in
    few_fit (c.loop-block.counts.unjudged + c.block_documents-more.result.unjudged) count (length c.args.marks.now)
    (part_few c.loop-block.counts.relevant c.loop-block.counts.unjudged c.block_documents-more.result.relevant c.block_documents-more.result.unjudged)
    (all_few true c.args.marks.now (chunks_rest c.next.new.self) count
    (block_counted true c.args.marks.now (chunks_rest c.loop-block.block-iterator) c.in-Some.block.now (chunks_rest c.next.new.self) (c.loop-block.counts.relevant + c.loop-block.counts.unjudged)
    (c.block_documents-more.result.relevant + c.block_documents-more.result.unjudged) c.in-Some.ensures.steps.1.0 c.block_documents-more.ensures.either c.loop-block.invariant.most)) c.requires

pub loop-block-preserved : goal.loop-block-preserved
loop-block-preserved c = record {
  size = c.in-Some.ensures.steps.0 ∙ c.loop-block.invariant.size;
  least = block_counted false c.args.marks.now (chunks_rest c.loop-block.block-iterator) c.in-Some.block.now (chunks_rest c.next.new.self) c.loop-block.counts.relevant c.block_documents-more.result.relevant
      c.in-Some.ensures.steps.1.0 c.block_documents-more.ensures.relevant c.loop-block.invariant.least;
  most = most_regrouped c.loop-block.counts.relevant c.loop-block.counts.unjudged c.block_documents-more.result.relevant c.block_documents-more.result.unjudged _ _
      (block_counted true c.args.marks.now (chunks_rest c.loop-block.block-iterator) c.in-Some.block.now (chunks_rest c.next.new.self) (c.loop-block.counts.relevant + c.loop-block.counts.unjudged)
      (c.block_documents-more.result.relevant + c.block_documents-more.result.unjudged) c.in-Some.ensures.steps.1.0 c.block_documents-more.ensures.either c.loop-block.invariant.most);
}

pub returns-clause-least : goal.returns-clause-least
returns-clause-least c = all_counted false c.args.marks.now _ _ c.loop-block.invariant.least c.in-None.ensures.steps.1.0

pub returns-clause-most : goal.returns-clause-most
returns-clause-most c = all_counted true c.args.marks.now _ _ c.loop-block.invariant.most c.in-None.ensures.steps.1.0

pub returns-clause-few : goal.returns-clause-few
returns-clause-few c = all_few true c.args.marks.now (chunks_rest c.loop-block.block-iterator) (c.loop-block.counts.relevant + c.loop-block.counts.unjudged) c.loop-block.invariant.most
