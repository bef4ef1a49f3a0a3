use Rattle.std.proofs.Common.{sym, subst}
use Rattle.desk_model.specs.declared.types.MeasureName.TheVariants.{Recall as R}
use Rattle.measure_core.specs.Lists.{least_documents}
use Rattle.measure_core.specs.Ranks.{AreRanksIn}
use Rattle.measure_core.proofs.Tallying.{counted_after, room_of_first, room_of_second}
use Rattle.recall.proofs.recall.count_cases.Goals as goal

pub invariant_of-ranked : goal.invariant_of-ranked
invariant_of-ranked c = record {
  met = c.requires.met;
  first_ranks = subst (AreRanksIn c.args.marks.now c.args.a.now) (sym c.deref.ensures.value) (c.set_second.ensures.kept c.args.marks.now c.args.a.now c.requires.kept).ranks;
  second_ranks = subst (AreRanksIn c.args.marks.now c.args.b.now) (sym c.deref-2.ensures.value) (c.set_second.ensures.ranks c.args.marks.now c.requires.kept.topic);
}

pub invariant_of-swapped : goal.invariant_of-swapped
invariant_of-swapped c = record {
  met = record { first = c.requires.met.second; second = c.requires.met.first; small = c.requires.met.small };
  first_ranks = subst (AreRanksIn c.args.marks.now c.args.b.now) (sym c.deref-3.ensures.value) (c.set_second.ensures.ranks c.args.marks.now c.requires.kept.topic);
  second_ranks = subst (AreRanksIn c.args.marks.now c.args.a.now) (sym c.deref-4.ensures.value) (c.set_second.ensures.kept c.args.marks.now c.args.a.now c.requires.kept).ranks;
}

pub count_case-least-requires-clause-room : goal.count_case-least-requires-clause-room
count_case-least-requires-clause-room c =
    let least = least_documents (R c.args.k) c.args.marks.now in
    room_of_first c.args.counts.now (least c.args.a.now c.args.b.now) (least c.args.b.now c.args.a.now) c.requires.room

pub count_case-most-requires-clause-room : goal.count_case-most-requires-clause-room
count_case-most-requires-clause-room c =
    let least = least_documents (R c.args.k) c.args.marks.now in
    room_of_second c.args.counts.now c.count_case-least.new.counts (least c.args.a.now c.args.b.now) (least c.args.b.now c.args.a.now) c.count_case-least.auto.counts c.requires.room c.count_case-least.ensures.counts

pub returns-clause-kept : goal.returns-clause-kept
returns-clause-kept c = c.set_second.ensures.kept c.args.marks.now c.args.a.now c.requires.kept

pub returns-clause-counts : goal.returns-clause-counts
returns-clause-counts c =
    let least = least_documents (R c.args.k) c.args.marks.now in
    counted_after c.args.counts.now c.count_case-least.new.counts c.count_case-most.new.counts (least c.args.a.now c.args.b.now) (least c.args.b.now c.args.a.now) c.count_case-least.auto.counts c.count_case-least.ensures.counts c.count_case-most.ensures.counts
