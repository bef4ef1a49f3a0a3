use Rattle.std.proofs.Common.{ℕ, Bool, List, length, Option, refl, ap, sym, subst, ◌∙◌}
use Rattle.desk_model.specs.Completion.{with_picked}
use Rattle.measure_laws.specs.Ranks.{comes_before}
use Rattle.measure_core.specs.Lists.{added_documents, passes_by_ranks, AreCounted, HaveRoomFor}
use Rattle.measure_core.specs.Ranks.{AreRanksIn}
use Rattle.measure_core.proofs.Splitting.{all_taken}
use Rattle.measure_core.proofs.Tallying.{counted_after, room_of_first, room_of_second}
use Rattle.rbp.proofs.rbp.RbpMeasure.count_lists.Goals as goal

-- the documents that the second run ranks before the first, or alone
abbrev before : List ℕ → List ℕ → ℕ → Bool
before a b = passes_by_ranks (λ (first second : Option ℕ). comes_before second first) a b

pub invariant_of-ranked : goal.invariant_of-ranked
invariant_of-ranked c = record {
  met = c.requires.met;
  first_ranks = subst (AreRanksIn c.args.marks.now c.args.a.now) (sym c.deref.ensures.value) (c.set_second.ensures.kept c.args.marks.now c.args.a.now c.requires.kept).ranks;
  second_ranks = subst (AreRanksIn c.args.marks.now c.args.b.now) (sym c.deref-2.ensures.value) (c.set_second.ensures.ranks c.args.marks.now c.requires.kept.topic);
}

pub count_by_ranks-least-requires-clause-room : goal.count_by_ranks-least-requires-clause-room
count_by_ranks-least-requires-clause-room c =
    let marks = c.args.marks.now in
    let lows = added_documents marks (with_picked marks (before c.args.a.now c.args.b.now)) in
    let highs = added_documents marks (with_picked marks (before c.args.b.now c.args.a.now)) in
    subst (HaveRoomFor c.args.counts.now) (sym (all_taken marks (with_picked marks (before c.args.a.now c.args.b.now)) (length marks) refl)) (room_of_first c.args.counts.now lows highs c.requires.room)

pub invariant_of-swapped : goal.invariant_of-swapped
invariant_of-swapped c = record {
  met = record { first = c.requires.met.second; second = c.requires.met.first; small = c.requires.met.small };
  first_ranks = subst (AreRanksIn c.args.marks.now c.args.b.now) (sym c.deref-3.ensures.value) (c.set_second.ensures.ranks c.args.marks.now c.requires.kept.topic);
  second_ranks = subst (AreRanksIn c.args.marks.now c.args.a.now) (sym c.deref-4.ensures.value) (c.set_second.ensures.kept c.args.marks.now c.args.a.now c.requires.kept).ranks;
}

pub count_by_ranks-most-requires-clause-room : goal.count_by_ranks-most-requires-clause-room
count_by_ranks-most-requires-clause-room c =
    let marks = c.args.marks.now in
    let lows = added_documents marks (with_picked marks (before c.args.a.now c.args.b.now)) in
    let highs = added_documents marks (with_picked marks (before c.args.b.now c.args.a.now)) in
    let low = all_taken marks (with_picked marks (before c.args.a.now c.args.b.now)) (length marks) refl in
    let counted = subst (λ (l : List ℕ). AreCounted c.args.counts.now l c.count_by_ranks-least.new.counts) low c.count_by_ranks-least.ensures.counts in
    subst (HaveRoomFor c.count_by_ranks-least.new.counts) (sym (all_taken marks (with_picked marks (before c.args.b.now c.args.a.now)) (length marks) refl))
    (room_of_second c.args.counts.now c.count_by_ranks-least.new.counts lows highs c.count_by_ranks-least.auto.counts c.requires.room counted)

pub returns-clause-kept : goal.returns-clause-kept
returns-clause-kept c = c.set_second.ensures.kept c.args.marks.now c.args.a.now c.requires.kept

pub returns-clause-least : goal.returns-clause-least
returns-clause-least c = let marks = c.args.marks.now in c.count_by_ranks-least.ensures.count ∙ ap (λ (l : List ℕ). length l) (all_taken marks (with_picked marks (before c.args.a.now c.args.b.now)) (length marks) refl)

pub returns-clause-most : goal.returns-clause-most
returns-clause-most c = let marks = c.args.marks.now in c.count_by_ranks-most.ensures.count ∙ ap (λ (l : List ℕ). length l) (all_taken marks (with_picked marks (before c.args.b.now c.args.a.now)) (length marks) refl)

pub returns-clause-counts : goal.returns-clause-counts
returns-clause-counts c =
    let marks = c.args.marks.now in
    let lows = added_documents marks (with_picked marks (before c.args.a.now c.args.b.now)) in
    let highs = added_documents marks (with_picked marks (before c.args.b.now c.args.a.now)) in
    let low = all_taken marks (with_picked marks (before c.args.a.now c.args.b.now)) (length marks) refl in
    let high = all_taken marks (with_picked marks (before c.args.b.now c.args.a.now)) (length marks) refl in
    counted_after c.args.counts.now c.count_by_ranks-least.new.counts c.count_by_ranks-most.new.counts lows highs c.count_by_ranks-least.auto.counts
    (subst (λ (l : List ℕ). AreCounted c.args.counts.now l c.count_by_ranks-least.new.counts) low c.count_by_ranks-least.ensures.counts)
    (subst (λ (l : List ℕ). AreCounted c.count_by_ranks-least.new.counts l c.count_by_ranks-most.new.counts) high c.count_by_ranks-most.ensures.counts)
