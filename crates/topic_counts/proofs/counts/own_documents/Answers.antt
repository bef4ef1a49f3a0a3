use Rattle.std.proofs.Common.{◌+◌, length, take, true, false, ap, sym, subst, ◌∙◌, refl, le_refl}
use Rattle.desk_model.specs.Classes.{only_count}
use Rattle.topic_counts.proofs.Scan.{OwnUpTo, scan_known, scan_short, scan_done, few_in_all, own_with, own_shared, own_other}
use Rattle.topic_counts.proofs.counts.own_documents.Goals as goal
use Rattle.topic_counts.proofs.counts.own_documents.Goals.{then-ne+then-not-is_among_first, else-ne, else-ne-via-then-ne+else-not-is_among_first, else-ne-via-else-ne}

pub loop-doc-init : goal.loop-doc-init
loop-doc-init c = record { least = refl; most = refl; few = le_refl 0 }

pub bounds-marks-doc : goal.bounds-marks-doc
bounds-marks-doc c =
    scan_known (length c.args.marks.now) c.args.k c.loop-doc.doc-index c.prefix-doc-items.result.now c.docs.result.now c.args.ranking.now c.prefix-doc-items.ensures c.docs.ensures.docs c.requires c.loop-doc-test.true

pub loop-doc-preserved : goal.loop-doc-preserved
loop-doc-preserved c =
    elim c.if-ne.branch [
      | then-ne+then-not-is_among_first w ↦ subst (OwnUpTo c.args.marks.now c.prefix-doc-items.result.now (take c.args.k c.args.other.now) (c.loop-doc.doc-index + 1)) (sym w.counts-is)
          (own_with c.args.marks.now c.prefix-doc-items.result.now (take c.args.k c.args.other.now) c.loop-doc.doc-index c.loop-doc.counts w.with-counts.result c.loop-doc-test.true c.loop-doc.invariant
          (sym w.is_among_first.ensures ∙ w.if-not-is_among_first.true) w.with-counts.ensures.relevant w.with-counts.ensures.either)
      | else-ne w ↦ subst (OwnUpTo c.args.marks.now c.prefix-doc-items.result.now (take c.args.k c.args.other.now) (c.loop-doc.doc-index + 1)) (sym w.counts-is) (elim w.else-ne.branch [
        | else-ne-via-then-ne+else-not-is_among_first v ↦ own_shared c.args.marks.now c.prefix-doc-items.result.now (take c.args.k c.args.other.now) c.loop-doc.doc-index c.loop-doc.counts c.loop-doc-test.true c.loop-doc.invariant
            (sym v.is_among_first.ensures ∙ v.if-not-is_among_first.false)
        | else-ne-via-else-ne v ↦ own_other c.args.marks.now c.prefix-doc-items.result.now (take c.args.k c.args.other.now) c.loop-doc.doc-index c.loop-doc.counts c.loop-doc-test.true c.loop-doc.invariant (sym c.ne.ensures ∙ v.if-ne.false)
      ])
    ]

pub returns-clause-least : goal.returns-clause-least
returns-clause-least c =
    c.loop-doc.invariant.least ∙ ap (λ ds. only_count false c.args.marks.now ds (take c.args.k c.args.other.now))
    (scan_done c.args.k c.loop-doc.doc-index c.prefix-doc-items.result.now c.docs.result.now c.args.ranking.now c.prefix-doc-items.ensures c.docs.ensures.docs c.loop-doc-test.false)

pub returns-clause-most : goal.returns-clause-most
returns-clause-most c =
    c.loop-doc.invariant.most ∙ ap (λ ds. only_count true c.args.marks.now ds (take c.args.k c.args.other.now))
    (scan_done c.args.k c.loop-doc.doc-index c.prefix-doc-items.result.now c.docs.result.now c.args.ranking.now c.prefix-doc-items.ensures c.docs.ensures.docs c.loop-doc-test.false)

pub returns-clause-few : goal.returns-clause-few
returns-clause-few c =
    few_in_all (c.loop-doc.counts.relevant + c.loop-doc.counts.unjudged) c.loop-doc.doc-index (length c.prefix-doc-items.result.now) c.loop-doc.invariant.few c.loop-doc.auto.doc-index-end
    (scan_short (length c.args.marks.now) c.args.k c.prefix-doc-items.result.now c.docs.result.now c.args.ranking.now c.prefix-doc-items.ensures c.docs.ensures.docs c.requires)
