use Rattle.std.proofs.Common.{length, subst, ◌∙◌, lt_of_lt_of_le}
use Rattle.topic_counts.specs.Seen.{AreMarksIn}
use Rattle.topic_counts.proofs.Scan.{scan_known, scan_done, none_marked, one_marked}
use Rattle.topic_counts.proofs.marked.mark_first.Goals as goal

pub loop-doc-init : goal.loop-doc-init
loop-doc-init c = none_marked c.args.marks.now c.args.seen.now c.fill.new.self c.requires.room (c.fill.ensures.after (λ y e. e)) c.fill.ensures.len

pub bounds-marks-doc : goal.bounds-marks-doc
bounds-marks-doc c =
    scan_known (length c.args.marks.now) c.args.k c.loop-doc.doc-index c.prefix-doc-items.result.now c.docs.result.now c.args.ranking.now c.prefix-doc-items.ensures c.docs.ensures.docs c.requires.ranking c.loop-doc-test.true

pub bounds-seen-doc : goal.bounds-seen-doc
bounds-seen-doc c =
    lt_of_lt_of_le (scan_known (length c.args.marks.now) c.args.k c.loop-doc.doc-index c.prefix-doc-items.result.now c.docs.result.now c.args.ranking.now c.prefix-doc-items.ensures c.docs.ensures.docs c.requires.ranking c.loop-doc-test.true) c.loop-doc.invariant.long

pub loop-doc-preserved : goal.loop-doc-preserved
loop-doc-preserved c =
    one_marked c.loop-doc.doc-index c.prefix-doc-items.result.now c.args.marks.now c.loop-doc.seen c.loop-doc-test.true
    (scan_known (length c.args.marks.now) c.args.k c.loop-doc.doc-index c.prefix-doc-items.result.now c.docs.result.now c.args.ranking.now c.prefix-doc-items.ensures c.docs.ensures.docs c.requires.ranking c.loop-doc-test.true) c.loop-doc.invariant

pub returns-clause-seen : goal.returns-clause-seen
returns-clause-seen c =
    subst (λ ds. AreMarksIn ds c.args.marks.now c.loop-doc.seen)
    (scan_done c.args.k c.loop-doc.doc-index c.prefix-doc-items.result.now c.docs.result.now c.args.ranking.now c.prefix-doc-items.ensures c.docs.ensures.docs c.loop-doc-test.false) c.loop-doc.invariant

pub returns-clause-count : goal.returns-clause-count
returns-clause-count c = c.loop-doc.auto.seen ∙ c.fill.ensures.len
