use Rattle.std.proofs.Common.{take, arith, refl, true, false}
use Rattle.desk_model.specs.Ranking.{is_in}
use Rattle.topic_ends.proofs.OwnSteps.{next_is, own_next, own_ordered, own_past, prefix_short, second_more}
use Rattle.topic_ends.proofs.own.Own.with_document.Goals as goal

pub with_marked-requires-clause-ordered : goal.with_marked-requires-clause-ordered
with_marked-requires-clause-ordered c =
    own_ordered c.args.marks.now _ _ c.args.self (prefix_short c.args.depth c.args.ranking.now c.requires.first.short) (prefix_short c.args.seen c.args.other.now c.requires.second.short) c.requires.own

pub with_marked-requires-clause-relevant : goal.with_marked-requires-clause-relevant
with_marked-requires-clause-relevant c =
    let found = c.in-Some.ensures.lookup in
    let next = next_is c.args.marks.now c.args.ranking.now c.docs.result.now c.args.other.now c.args.depth c.args.seen c.in-Some.doc.now (is_in (take c.args.seen c.args.other.now) c.in-Some.doc.now) c.requires.first c.requires.second c.docs.ensures.docs found.3.0 found.1 refl in
    omega (arith, c.requires.own.second_relevant, second_more false c.args.marks.now c.args.ranking.now (take c.args.seen c.args.other.now) c.args.depth c.in-Some.doc.now (is_in (take c.args.seen c.args.other.now) c.in-Some.doc.now) next)

pub with_marked-requires-clause-possible : goal.with_marked-requires-clause-possible
with_marked-requires-clause-possible c =
    let found = c.in-Some.ensures.lookup in
    let next = next_is c.args.marks.now c.args.ranking.now c.docs.result.now c.args.other.now c.args.depth c.args.seen c.in-Some.doc.now (is_in (take c.args.seen c.args.other.now) c.in-Some.doc.now) c.requires.first c.requires.second c.docs.ensures.docs found.3.0 found.1 refl in
    omega (arith, c.requires.own.second_possible, second_more true c.args.marks.now c.args.ranking.now (take c.args.seen c.args.other.now) c.args.depth c.in-Some.doc.now (is_in (take c.args.seen c.args.other.now) c.in-Some.doc.now) next)

pub returns-in-Some : goal.returns-in-Some
returns-in-Some c =
    let found = c.in-Some.ensures.lookup in
    let next = next_is c.args.marks.now c.args.ranking.now c.docs.result.now c.args.other.now c.args.depth c.args.seen c.in-Some.doc.now (is_in (take c.args.seen c.args.other.now) c.in-Some.doc.now) c.requires.first c.requires.second c.docs.ensures.docs found.3.0 found.1 refl in
    let after = c.with_marked.ensures in
    own_next c.args.marks.now c.args.ranking.now (take c.args.seen c.args.other.now) c.args.depth c.in-Some.doc.now (is_in (take c.args.seen c.args.other.now) c.in-Some.doc.now) c.args.self c.with_marked.result next c.requires.own after.first_relevant after.first_possible after.second_relevant after.second_possible

pub returns-in-None : goal.returns-in-None
returns-in-None c = own_past c.args.marks.now c.args.ranking.now c.docs.result.now (take c.args.seen c.args.other.now) c.args.depth c.args.self c.docs.ensures.docs c.in-None.ensures.lookup.3 c.requires.own
