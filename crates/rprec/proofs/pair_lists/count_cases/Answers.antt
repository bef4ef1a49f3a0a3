use Rattle.std.proofs.Common.{ℕ, length, ap, sym, subst, ◌∙◌}
use Rattle.measure_laws.specs.RprecCase.{greedy_truth, rprec_truth}
use Rattle.measure_core.specs.Lists.{added_documents, AreCounted, HaveRoomFor}
use Rattle.measure_core.specs.Ranks.{AreRanksIn}
use Rattle.measure_core.proofs.Tallying.{counted_after, room_of_first, room_of_second}
use Rattle.rprec.proofs.Ends.{topic_is}
use Rattle.rprec.proofs.pair_lists.count_cases.Goals as goal

pub extremes_of-extremes-requires-clause-ranks : goal.extremes_of-extremes-requires-clause-ranks
extremes_of-extremes-requires-clause-ranks c = subst (AreRanksIn c.args.summed.now.marks.now c.args.summed.now.a.now) (sym c.deref.ensures.value) c.requires.kept.ranks

pub invariant_of-ranked : goal.invariant_of-ranked
invariant_of-ranked c = record {
  met = c.args.summed.now.met;
  first_ranks = subst (AreRanksIn c.args.summed.now.marks.now c.args.summed.now.a.now) (sym c.deref-2.ensures.value) (c.set_second.ensures.kept c.args.summed.now.marks.now c.args.summed.now.a.now c.requires.kept).ranks;
  second_ranks = subst (AreRanksIn c.args.summed.now.marks.now c.args.summed.now.b.now) (sym c.deref-3.ensures.value) (c.set_second.ensures.ranks c.args.summed.now.marks.now c.requires.kept.topic);
}

pub count_chosen-least-requires-clause-topic : goal.count_chosen-least-requires-clause-topic
count_chosen-least-requires-clause-topic c = let all = c.requires.kept.topic.all.topic in topic_is c.args.summed.now.marks.now _ all.least all.most

pub count_chosen-least-requires-clause-room : goal.count_chosen-least-requires-clause-room
count_chosen-least-requires-clause-room c =
    let marks = c.args.summed.now.marks.now in
    let a = c.args.summed.now.a.now in
    let b = c.args.summed.now.b.now in
    let found = c.extremes_of-extremes.ensures in
    subst (λ (r : ℕ). HaveRoomFor c.args.counts.now (added_documents marks (greedy_truth marks a b r))) (sym found.least)
    (room_of_first c.args.counts.now (added_documents marks (rprec_truth marks a b)) (added_documents marks (rprec_truth marks b a)) c.requires.room)

pub invariant_of-swapped : goal.invariant_of-swapped
invariant_of-swapped c = record {
  met = record { first = c.args.summed.now.met.second; second = c.args.summed.now.met.first; small = c.args.summed.now.met.small };
  first_ranks = subst (AreRanksIn c.args.summed.now.marks.now c.args.summed.now.b.now) (sym c.deref-4.ensures.value) (c.set_second.ensures.ranks c.args.summed.now.marks.now c.requires.kept.topic);
  second_ranks = subst (AreRanksIn c.args.summed.now.marks.now c.args.summed.now.a.now) (sym c.deref-5.ensures.value) (c.set_second.ensures.kept c.args.summed.now.marks.now c.args.summed.now.a.now c.requires.kept).ranks;
}

pub count_chosen-most-requires-clause-topic : goal.count_chosen-most-requires-clause-topic
count_chosen-most-requires-clause-topic c = let all = c.requires.kept.topic.all.topic in topic_is c.args.summed.now.marks.now _ all.least all.most

pub count_chosen-most-requires-clause-room : goal.count_chosen-most-requires-clause-room
count_chosen-most-requires-clause-room c =
    let marks = c.args.summed.now.marks.now in
    let a = c.args.summed.now.a.now in
    let b = c.args.summed.now.b.now in
    let found = c.extremes_of-extremes.ensures in
    let counted = subst (λ (r : ℕ). AreCounted c.args.counts.now (added_documents marks (greedy_truth marks a b r)) c.count_chosen-least.new.counts) found.least c.count_chosen-least.ensures.counts in
    subst (λ (r : ℕ). HaveRoomFor c.count_chosen-least.new.counts (added_documents marks (greedy_truth marks b a r))) (sym found.most)
    (room_of_second c.args.counts.now c.count_chosen-least.new.counts (added_documents marks (rprec_truth marks a b)) (added_documents marks (rprec_truth marks b a)) c.count_chosen-least.auto.counts c.requires.room counted)

pub returns-clause-kept : goal.returns-clause-kept
returns-clause-kept c = c.set_second.ensures.kept c.args.summed.now.marks.now c.args.summed.now.a.now c.requires.kept

pub returns-clause-least : goal.returns-clause-least
returns-clause-least c = let marks = c.args.summed.now.marks.now in c.count_chosen-least.ensures.count ∙ ap (λ (r : ℕ). length (added_documents marks (greedy_truth marks c.args.summed.now.a.now c.args.summed.now.b.now r))) c.extremes_of-extremes.ensures.least

pub returns-clause-most : goal.returns-clause-most
returns-clause-most c = let marks = c.args.summed.now.marks.now in c.count_chosen-most.ensures.count ∙ ap (λ (r : ℕ). length (added_documents marks (greedy_truth marks c.args.summed.now.b.now c.args.summed.now.a.now r))) c.extremes_of-extremes.ensures.most

pub returns-clause-counts : goal.returns-clause-counts
returns-clause-counts c =
    let marks = c.args.summed.now.marks.now in
    let a = c.args.summed.now.a.now in
    let b = c.args.summed.now.b.now in
    let found = c.extremes_of-extremes.ensures in
    counted_after c.args.counts.now c.count_chosen-least.new.counts c.count_chosen-most.new.counts (added_documents marks (rprec_truth marks a b)) (added_documents marks (rprec_truth marks b a)) c.count_chosen-least.auto.counts
    (subst (λ (r : ℕ). AreCounted c.args.counts.now (added_documents marks (greedy_truth marks a b r)) c.count_chosen-least.new.counts) found.least c.count_chosen-least.ensures.counts)
    (subst (λ (r : ℕ). AreCounted c.count_chosen-least.new.counts (added_documents marks (greedy_truth marks b a r)) c.count_chosen-most.new.counts) found.most c.count_chosen-most.ensures.counts)
