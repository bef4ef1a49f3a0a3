use Rattle.std.proofs.Common.{Bool, Some, pos, refl, arith, ap, ◌∙◌, sym}
use Rattle.std.specs.Prelude.{if◌then◌else◌}
use Rattle.std.proofs.lemmas.Int.{ints}
use Rattle.desk_model.specs.Ranking.{rank}
use Rattle.measure_laws.specs.Shares.{high_share}
use Rattle.topic_ends.specs.Walk.{first_of}
use Rattle.topic_ends.proofs.Shares.{summed_all, summed_more}
use Rattle.topic_ends.proofs.Walks.{from_start, next_is, next_known, next_swapped}
use Rattle.topic_ends.proofs.biased.upper_ends.Goals as goal

pub loop-doc-init : goal.loop-doc-init
loop-doc-init g c =
    let first = from_start c.args.a.now c.by_doc-first.result.now c.by_doc-first.ensures.ascending c.by_doc-first.ensures.ranks in
    let second = from_start c.args.b.now c.by_doc-second.result.now c.by_doc-second.ensures.ascending c.by_doc-second.ensures.ranks in
    record {
      low = record { next = 0; within = omega arith; first_from = first; second_from = second; total = record { is = refl; low = omega (arith, ints); high = omega (arith, ints) } };
      high = record { next = 0; within = omega arith; first_from = second; second_from = first; total = record { is = refl; low = omega (arith, ints); high = omega (arith, ints) } };
    }

pub find_relevant-in_low-requires : goal.find_relevant-in_low-requires
find_relevant-in_low-requires g c =
    let a = c.args.a.now in
    let b = c.args.b.now in
    let kept = c.loop-doc.invariant.low in
    let next = next_is kept.next c.in-Some.doc a b c.loop-doc.first.now c.loop-doc.second.now kept.first_from kept.second_from c.in-Some.ensures in
    next_known kept.next c.in-Some.doc (g.T.Relevance.universe c.args.low.now) a b c.loop-doc.first.now c.loop-doc.second.now c.requires.low.first c.requires.low.second next

pub find_relevant-in_high-requires : goal.find_relevant-in_high-requires
find_relevant-in_high-requires g c =
    let a = c.args.a.now in
    let b = c.args.b.now in
    let kept = c.loop-doc.invariant.high in
    let swapped = next_swapped (first_of c.loop-doc.first.now) (first_of c.loop-doc.second.now) (Some c.in-Some.doc) c.in-Some.ensures in
    let next = next_is kept.next c.in-Some.doc b a c.loop-doc.second.now c.loop-doc.first.now kept.first_from kept.second_from swapped in
    next_known kept.next c.in-Some.doc (g.T.Relevance.universe c.args.high.now) b a c.loop-doc.second.now c.loop-doc.first.now c.requires.high.first c.requires.high.second next

pub greatest_gain-low_sum-requires : goal.greatest_gain-low_sum-requires
greatest_gain-low_sum-requires g c =
    let a = c.args.a.now in
    let b = c.args.b.now in
    let kept = c.loop-doc.invariant.low in
    let next = next_is kept.next c.in-Some.doc a b c.loop-doc.first.now c.loop-doc.second.now kept.first_from kept.second_from c.in-Some.ensures in
    (a, b, c.requires.low.first.short, c.requires.low.second.short, next.first_from, next.second_from)

pub greatest_gain-high_sum-requires : goal.greatest_gain-high_sum-requires
greatest_gain-high_sum-requires g c =
    let a = c.args.a.now in
    let b = c.args.b.now in
    let kept = c.loop-doc.invariant.low in
    let next = next_is kept.next c.in-Some.doc a b c.loop-doc.first.now c.loop-doc.second.now kept.first_from kept.second_from c.in-Some.ensures in
    (b, a, c.requires.high.first.short, c.requires.high.second.short, next.second_from, next.first_from)

pub loop-doc-preserved : goal.loop-doc-preserved
loop-doc-preserved g c =
    let a = c.args.a.now in
    let b = c.args.b.now in
    let doc = c.in-Some.doc in
    let first = c.loop-doc.first.now in
    let second = c.loop-doc.second.now in
    let low = c.loop-doc.invariant.low in
    let high = c.loop-doc.invariant.high in
    let share = high_share c.args.powers.now.top c.args.powers.now.bottom in
    let next = next_is low.next doc a b first second low.first_from low.second_from c.in-Some.ensures in
    let swapped = next_is high.next doc b a second first high.first_from high.second_from (next_swapped (first_of first) (first_of second) (Some doc) c.in-Some.ensures) in
    let in_low = g.T.Relevance.universe c.args.low.now in
    let in_high = g.T.Relevance.universe c.args.high.now in
    let known = next_known low.next doc in_low a b first second c.requires.low.first c.requires.low.second next in
    let known' = next_known high.next doc in_high b a second first c.requires.high.first c.requires.high.second swapped in
    let gain = c.greatest_gain-low_sum in
    let gain' = c.greatest_gain-high_sum in
    let is = gain.ensures.gain a b next.first_from next.second_from ∙ ap (λ (t : Bool). if t then share (rank a doc) (rank b doc) else pos 0) c.find_relevant-in_low.ensures in
    let is' = gain'.ensures.gain b a next.second_from next.first_from ∙ ap (λ (t : Bool). if t then share (rank b doc) (rank a doc) else pos 0) c.find_relevant-in_high.ensures in
    let from = c.after-first.ensures.from a next.first_from in
    let from' = c.after-second.ensures.from b next.second_from in
    record {
      low = summed_more in_low (g.T.Relevance.truth c.args.low.now) share a b first second _ _ _ gain.result c.requires.low.small low doc refl next known is gain.ensures.low gain.ensures.high from from';
      high = summed_more in_high (g.T.Relevance.truth c.args.high.now) share b a second first _ _ _ gain'.result c.requires.high.small high doc refl swapped known' is' gain'.ensures.low gain'.ensures.high from' from;
    }

pub returns-clause-low : goal.returns-clause-low
returns-clause-low g c =
    let universe = g.T.Relevance.universe c.args.low.now in
    let truth = g.T.Relevance.truth c.args.low.now in
    let share = high_share c.args.powers.now.top c.args.powers.now.bottom in
    let all = summed_all universe truth share c.args.a.now c.args.b.now c.loop-doc.first.now c.loop-doc.second.now _ c.loop-doc.invariant.low refl (sym c.in_default.is ∙ c.next_document.ensures) in
    omega (arith, ints, all.is, all.low, all.high, c.tail_least.ensures.value, c.tail_least.ensures.small, c.requires.low.small)

pub returns-clause-high : goal.returns-clause-high
returns-clause-high g c =
    let universe = g.T.Relevance.universe c.args.high.now in
    let truth = g.T.Relevance.truth c.args.high.now in
    let share = high_share c.args.powers.now.top c.args.powers.now.bottom in
    let end = next_swapped (first_of c.loop-doc.first.now) (first_of c.loop-doc.second.now) _ (sym c.in_default.is ∙ c.next_document.ensures) in
    let all = summed_all universe truth share c.args.b.now c.args.a.now c.loop-doc.second.now c.loop-doc.first.now _ c.loop-doc.invariant.high refl end in
    omega (arith, ints, all.is, all.low, all.high, c.tail_least-2.ensures.value, c.tail_least-2.ensures.small, c.requires.high.small)
