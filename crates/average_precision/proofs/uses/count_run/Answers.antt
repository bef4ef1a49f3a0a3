use Rattle.std.proofs.Common.{◌+◌, arith}
use Rattle.average_precision.specs.Uses.{share}
use Rattle.average_precision.proofs.Using.{one_left, one_raised, share_is}
use Rattle.average_precision.proofs.uses.count_run.Goals as goal

pub overflow_cast-counts : goal.overflow_cast-counts
overflow_cast-counts c =
    let run = c.args.run.now in
    let here = share_is run.run.on.marks.now run.run.on.docs.now run.classes.now c.args.uses c.loop-doc.doc c.lists_with-high.result c.lists_with-low.result run.are c.loop-doc-test.true c.lists_with-high.ensures c.lists_with-low.ensures in
    omega (arith, here, c.requires.room c.loop-doc.doc (omega (arith, c.requires.size, c.loop-doc-test.true)))

pub overflow_cast-counts-in-loop-doc : goal.overflow_cast-counts-in-loop-doc
overflow_cast-counts-in-loop-doc c =
    let run = c.args.run.now in
    let here = share_is run.run.on.marks.now run.run.on.docs.now run.classes.now c.args.uses c.loop-doc.doc c.lists_with-high.result c.lists_with-low.result run.are c.loop-doc-test.true c.lists_with-high.ensures c.lists_with-low.ensures in
    omega (arith, here, c.requires.room c.loop-doc.doc (omega (arith, c.requires.size, c.loop-doc-test.true)))

pub overflow_add-counts : goal.overflow_add-counts
overflow_add-counts c =
    let run = c.args.run.now in
    let here = share_is run.run.on.marks.now run.run.on.docs.now run.classes.now c.args.uses c.loop-doc.doc c.lists_with-high.result c.lists_with-low.result run.are c.loop-doc-test.true c.lists_with-high.ensures c.lists_with-low.ensures in
    omega (arith, here, c.requires.room c.loop-doc.doc (omega (arith, c.requires.size, c.loop-doc-test.true)))

pub overflow_add-counts-in-loop-doc : goal.overflow_add-counts-in-loop-doc
overflow_add-counts-in-loop-doc c =
    let run = c.args.run.now in
    let here = share_is run.run.on.marks.now run.run.on.docs.now run.classes.now c.args.uses c.loop-doc.doc c.lists_with-high.result c.lists_with-low.result run.are c.loop-doc-test.true c.lists_with-high.ensures c.lists_with-low.ensures in
    omega (arith, here, c.loop-doc.invariant.left c.loop-doc.doc (omega arith), c.requires.room c.loop-doc.doc (omega (arith, c.requires.size, c.loop-doc-test.true)))

pub loop-doc-preserved : goal.loop-doc-preserved
loop-doc-preserved c =
    let run = c.args.run.now in
    let here = share_is run.run.on.marks.now run.run.on.docs.now run.classes.now c.args.uses c.loop-doc.doc c.lists_with-high.result c.lists_with-low.result run.are c.loop-doc-test.true c.lists_with-high.ensures c.lists_with-low.ensures in
    record {
      raised = one_raised c.args.counts.now c.loop-doc.counts (share run.run.on.marks.now run.run.on.docs.now c.args.uses) c.loop-doc.doc (c.lists_with-high.result + c.lists_with-low.result) (omega (arith, c.loop-doc-test.true, c.requires.size, c.loop-doc.auto.counts)) c.loop-doc.invariant.raised
          (c.loop-doc.invariant.left c.loop-doc.doc (omega arith)) here;
      left = one_left c.args.counts.now c.loop-doc.counts c.loop-doc.doc _ c.loop-doc.invariant.left;
    }
