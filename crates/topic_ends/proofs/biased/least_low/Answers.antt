use Rattle.std.proofs.Common.{◌+◌, length, refl, arith, ◌∙◌, subst, sym}
use Rattle.std.proofs.lemmas.Int.{ints}
use Rattle.measure_laws.specs.Ranks.{IsRankWithin}
use Rattle.measure_laws.specs.Shares.{biased_truth, low_share}
use Rattle.measure_laws.proofs.Ranks.{rank_within}
use Rattle.topic_ends.proofs.Shares.{least_gain_is, sum_more, summed_all, summed_next}
use Rattle.topic_ends.proofs.Walks.{from_start, next_is, next_known}
use Rattle.topic_ends.proofs.biased.least_low.Goals as goal

pub loop-doc-init : goal.loop-doc-init
loop-doc-init c = record {
  next = 0;
  within = omega arith;
  first_from = from_start c.args.pair.now.a.now c.by_doc-first.result.now c.by_doc-first.ensures.ascending c.by_doc-first.ensures.ranks;
  second_from = from_start c.args.pair.now.b.now c.by_doc-second.result.now c.by_doc-second.ensures.ascending c.by_doc-second.ensures.ranks;
  total = record { is = refl; low = omega (arith, ints); high = omega (arith, ints) };
}

pub bounds-pair-doc : goal.bounds-pair-doc
bounds-pair-doc c =
    let a = c.args.pair.now.a.now in
    let b = c.args.pair.now.b.now in
    let doc = c.in-Some.doc in
    let kept = c.loop-doc.invariant in
    let next = next_is kept.next doc a b c.loop-doc.first.now c.loop-doc.second.now kept.first_from kept.second_from c.in-Some.ensures in
    next_known kept.next doc (length c.args.pair.now.marks.now) a b c.loop-doc.first.now c.loop-doc.second.now c.args.pair.now.first c.args.pair.now.second next

pub least_gain-sum-requires-clause-first : goal.least_gain-sum-requires-clause-first
least_gain-sum-requires-clause-first c =
    let a = c.args.pair.now.a.now in
    let b = c.args.pair.now.b.now in
    let doc = c.in-Some.doc in
    let kept = c.loop-doc.invariant in
    let next = next_is kept.next doc a b c.loop-doc.first.now c.loop-doc.second.now kept.first_from kept.second_from c.in-Some.ensures in
    subst (IsRankWithin 10000) (sym (c.next_rank-x.ensures a next.first_from)) (rank_within a 10000 doc c.args.pair.now.first.short)

pub least_gain-sum-requires-clause-second : goal.least_gain-sum-requires-clause-second
least_gain-sum-requires-clause-second c =
    let a = c.args.pair.now.a.now in
    let b = c.args.pair.now.b.now in
    let doc = c.in-Some.doc in
    let kept = c.loop-doc.invariant in
    let next = next_is kept.next doc a b c.loop-doc.first.now c.loop-doc.second.now kept.first_from kept.second_from c.in-Some.ensures in
    subst (IsRankWithin 10000) (sym (c.next_rank-y.ensures b next.second_from)) (rank_within b 10000 doc c.args.pair.now.second.short)

pub loop-doc-preserved : goal.loop-doc-preserved
loop-doc-preserved c =
    let a = c.args.pair.now.a.now in
    let b = c.args.pair.now.b.now in
    let doc = c.in-Some.doc in
    let kept = c.loop-doc.invariant in
    let next = next_is kept.next doc a b c.loop-doc.first.now c.loop-doc.second.now kept.first_from kept.second_from c.in-Some.ensures in
    let universe = length c.args.pair.now.marks.now in
    let truth = biased_truth c.args.pair.now.marks.now a b in
    let share = low_share c.args.powers.now.top c.args.powers.now.bottom in
    let known = next_known kept.next doc (length c.args.pair.now.marks.now) a b c.loop-doc.first.now c.loop-doc.second.now c.args.pair.now.first c.args.pair.now.second next in
    let gain = c.least_gain-sum in
    let is = least_gain_is share c.args.pair.now.marks.now a b doc c.next_rank-x.result c.next_rank-y.result _ gain.result gain.ensures.gain (c.next_rank-x.ensures a next.first_from) (c.next_rank-y.ensures b next.second_from) refl in
    let before = summed_next universe truth share a b c.loop-doc.first.now c.loop-doc.second.now _ kept doc refl next in
    record {
      next = doc + 1;
      within = omega (arith, known);
      first_from = c.after-first.ensures.from a next.first_from;
      second_from = c.after-second.ensures.from b next.second_from;
      total = sum_more truth doc share a b _ gain.result (omega (arith, known, c.args.pair.now.few)) before is gain.ensures.low gain.ensures.high;
    }

pub returns : goal.returns
returns c =
    let a = c.args.pair.now.a.now in
    let b = c.args.pair.now.b.now in
    let universe = length c.args.pair.now.marks.now in
    let truth = biased_truth c.args.pair.now.marks.now a b in
    let share = low_share c.args.powers.now.top c.args.powers.now.bottom in
    let all = summed_all universe truth share a b c.loop-doc.first.now c.loop-doc.second.now _ c.loop-doc.invariant refl (sym c.in_default.is ∙ c.next_document.ensures) in
    omega (arith, ints, all.is, all.low, all.high, c.tail_most.ensures.value, c.tail_most.ensures.small, c.args.pair.now.few)
