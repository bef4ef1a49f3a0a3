use Rattle.std.proofs.Common.{◌+◌, length, count_by, true, false, ap, ◌∙◌}
use Rattle.desk_model.specs.Completion.{with_picked}
use Rattle.topic_counts.proofs.Scan.{scan_known, scan_short, scan_done, one_counted, few_counted, few_more, few_in_all}
use Rattle.topic_counts.proofs.counts.prefix_documents.Goals as goal

pub bounds-marks-doc : goal.bounds-marks-doc
bounds-marks-doc c =
    scan_known (length c.args.marks.now) c.args.k c.loop-doc.doc-index c.prefix-doc-items.result.now c.docs.result.now c.args.ranking.now c.prefix-doc-items.ensures c.docs.ensures.docs c.requires c.loop-doc-test.true

pub with-counts-requires : goal.with-counts-requires
with-counts-requires c =
    few_counted (c.loop-doc.counts.relevant + c.loop-doc.counts.unjudged) c.loop-doc.doc-index (length c.prefix-doc-items.result.now) c.loop-doc.invariant.few c.loop-doc-test.true
    (scan_short (length c.args.marks.now) c.args.k c.prefix-doc-items.result.now c.docs.result.now c.args.ranking.now c.prefix-doc-items.ensures c.docs.ensures.docs c.requires)

pub loop-doc-preserved : goal.loop-doc-preserved
loop-doc-preserved c = record {
  least = one_counted false c.args.marks.now c.prefix-doc-items.result.now c.loop-doc.doc-index c.loop-doc.counts.relevant c.with-counts.result.relevant c.loop-doc-test.true c.loop-doc.invariant.least c.with-counts.ensures.relevant;
  most = one_counted true c.args.marks.now c.prefix-doc-items.result.now c.loop-doc.doc-index (c.loop-doc.counts.relevant + c.loop-doc.counts.unjudged) (c.with-counts.result.relevant + c.with-counts.result.unjudged) c.loop-doc-test.true c.loop-doc.invariant.most c.with-counts.ensures.either;
  few = few_more true c.args.marks.now c.prefix-doc-items.result.now c.loop-doc.doc-index (c.loop-doc.counts.relevant + c.loop-doc.counts.unjudged) (c.with-counts.result.relevant + c.with-counts.result.unjudged) c.loop-doc.invariant.few c.with-counts.ensures.either;
}

pub returns-clause-least : goal.returns-clause-least
returns-clause-least c =
    c.loop-doc.invariant.least ∙ ap (count_by (with_picked c.args.marks.now (λ _. false)))
    (scan_done c.args.k c.loop-doc.doc-index c.prefix-doc-items.result.now c.docs.result.now c.args.ranking.now c.prefix-doc-items.ensures c.docs.ensures.docs c.loop-doc-test.false)

pub returns-clause-most : goal.returns-clause-most
returns-clause-most c =
    c.loop-doc.invariant.most ∙ ap (count_by (with_picked c.args.marks.now (λ _. true)))
    (scan_done c.args.k c.loop-doc.doc-index c.prefix-doc-items.result.now c.docs.result.now c.args.ranking.now c.prefix-doc-items.ensures c.docs.ensures.docs c.loop-doc-test.false)

pub returns-clause-few : goal.returns-clause-few
returns-clause-few c =
    few_in_all (c.loop-doc.counts.relevant + c.loop-doc.counts.unjudged) c.loop-doc.doc-index (length c.prefix-doc-items.result.now) c.loop-doc.invariant.few c.loop-doc.auto.doc-index-end
    (scan_short (length c.args.marks.now) c.args.k c.prefix-doc-items.result.now c.docs.result.now c.args.ranking.now c.prefix-doc-items.ensures c.docs.ensures.docs c.requires)
