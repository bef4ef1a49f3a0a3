use Rattle.topic_ends.proofs.FirstPlaces.{here, later, nowhere}
use Rattle.topic_ends.proofs.reciprocal.first_relevant.Goals as goal

pub returns-then-is_relevant-clause-first : goal.returns-then-is_relevant-clause-first
returns-then-is_relevant-clause-first g c =
    let truth = g.T.Relevance.truth c.args.relevant.now in
    let items = c.docs-doc-items.result.now in
    rw (← c.docs-doc-items.ensures.docs, c.loop-place.invariant, here truth items c.loop-place.place c.loop-place-test.true c.if-is_relevant.ensures)

pub loop-place-preserved : goal.loop-place-preserved
loop-place-preserved g c =
    let truth = g.T.Relevance.truth c.args.relevant.now in
    let items = c.docs-doc-items.result.now in
    rw (c.loop-place.invariant, later truth items c.loop-place.place c.loop-place-test.true c.if-is_relevant.ensures)

pub returns-clause-first : goal.returns-clause-first
returns-clause-first g c =
    let truth = g.T.Relevance.truth c.args.relevant.now in
    let items = c.docs-doc-items.result.now in
    rw (← c.docs-doc-items.ensures.docs, c.loop-place.invariant, nowhere truth items c.loop-place.place c.loop-place-test.false)
