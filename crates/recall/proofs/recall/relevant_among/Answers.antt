use Rattle.std.proofs.Common.{◌+◌, length, count_by, false, ap, ◌∙◌, arith}
use Rattle.desk_model.specs.Completion.{with_picked}
use Rattle.topic_counts.proofs.Scan.{scan_known, scan_short, scan_done, one_counted}
use Rattle.recall.proofs.recall.relevant_among.Goals as goal

pub bounds-marks-doc : goal.bounds-marks-doc
bounds-marks-doc c =
    scan_known (length c.args.marks.now) c.args.k c.loop-doc.doc-index c.prefix-doc-items.result.now c.docs.result.now c.args.ranking.now c.prefix-doc-items.ensures c.docs.ensures.docs c.requires c.loop-doc-test.true

pub overflow_add-relevant : goal.overflow_add-relevant
overflow_add-relevant c =
    omega (
      arith,
      c.loop-doc.invariant.few,
      c.counted-relevant.ensures.few,
      c.loop-doc-test.true,
      scan_short (length c.args.marks.now) c.args.k c.prefix-doc-items.result.now c.docs.result.now c.args.ranking.now c.prefix-doc-items.ensures c.docs.ensures.docs c.requires,
    )

pub loop-doc-preserved : goal.loop-doc-preserved
loop-doc-preserved c = record {
  count = one_counted false c.args.marks.now c.prefix-doc-items.result.now c.loop-doc.doc-index c.loop-doc.relevant (c.loop-doc.relevant + c.counted-relevant.result) c.loop-doc-test.true c.loop-doc.invariant.count (ap (λ n. c.loop-doc.relevant + n) c.counted-relevant.ensures.count);
  few = omega (arith, c.loop-doc.invariant.few, c.counted-relevant.ensures.few);
}

pub returns : goal.returns
returns c =
    c.loop-doc.invariant.count ∙ ap (count_by (with_picked c.args.marks.now (λ _. false)))
    (scan_done c.args.k c.loop-doc.doc-index c.prefix-doc-items.result.now c.docs.result.now c.args.ranking.now c.prefix-doc-items.ensures c.docs.ensures.docs c.loop-doc-test.false)
