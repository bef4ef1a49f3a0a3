use Rattle.std.proofs.Common.{arith, sym, ◌∙◌}
use Rattle.std.proofs.lemmas.List.{take_all}
use Rattle.std.proofs.lemmas.List.Sums.{count_by_more_yes, count_by_more_no}
use Rattle.topic_ends.proofs.Prefixes.{prefix_known, prefix_short}
use Rattle.topic_ends.proofs.counts.relevant_by_rank.Goals.{then-is_relevant, else-is_relevant}
use Rattle.topic_ends.proofs.counts.relevant_by_rank.Goals as goal

pub is_relevant-requires : goal.is_relevant-requires
is_relevant-requires g c = prefix_known (g.T.Relevance.universe c.args.relevant.now) c.args.k c.loop-doc.doc-index _ _ c.args.ranking.now c.prefix-doc-items.ensures c.docs.ensures.docs c.requires.within c.loop-doc-test.true

pub overflow_add-count : goal.overflow_add-count
overflow_add-count g c = omega (arith, c.loop-doc.invariant.few, c.loop-doc-test.true, prefix_short 10000 c.args.k _ _ c.args.ranking.now c.prefix-doc-items.ensures c.docs.ensures.docs c.requires.short)

pub loop-doc-preserved : goal.loop-doc-preserved
loop-doc-preserved g c =
    let truth = g.T.Relevance.truth c.args.relevant.now in
    let items = c.prefix-doc-items.result.now in
    let i = c.loop-doc.doc-index in
    let within = c.loop-doc-test.true in
    let kept = c.loop-doc.invariant in
    elim c.if-is_relevant.branch [
      | then-is_relevant w ↦ record {
        count = omega (arith, w.count-is, kept.count, count_by_more_yes truth items i 0 within (sym c.is_relevant.ensures ∙ w.if-is_relevant.true));
        few = omega (arith, w.count-is, kept.few);
      }
      | else-is_relevant w ↦ record {
        count = omega (arith, w.count-is, kept.count, count_by_more_no truth items i 0 within (sym c.is_relevant.ensures ∙ w.if-is_relevant.false));
        few = omega (arith, w.count-is, kept.few);
      }
    ]

pub returns-clause-count : goal.returns-clause-count
returns-clause-count g c =
    let whole = take_all c.loop-doc.doc-index c.prefix-doc-items.result.now c.loop-doc-test.false in
    rw (c.loop-doc.invariant.count, whole, c.prefix-doc-items.ensures, c.docs.ensures.docs)

pub returns-clause-few : goal.returns-clause-few
returns-clause-few g c = omega (arith, c.loop-doc.invariant.few, c.loop-doc.auto.doc-index-end, prefix_short 10000 c.args.k _ _ c.args.ranking.now c.prefix-doc-items.ensures c.docs.ensures.docs c.requires.short)
