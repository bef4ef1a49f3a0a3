use Rattle.std.proofs.Common.{length, take, List, ℕ, ap, sym, subst, ◌∙◌}
use Rattle.measure_core.specs.Lists.{AreCounted, HaveRoomFor}
use Rattle.measure_core.proofs.Tallying.{own_by_ranks}
use Rattle.marked_lists.proofs.own_lists.count_own.Goals as goal

pub count_by_ranks-requires-clause-room : goal.count_by_ranks-requires-clause-room
count_by_ranks-requires-clause-room c = subst (HaveRoomFor c.args.counts.now) (sym (ap (take c.args.most) (own_by_ranks c.args.k c.args.ranked.now.marks.now c.args.ranked.now.a.now c.args.ranked.now.b.now))) c.requires.room

pub returns-clause-count : goal.returns-clause-count
returns-clause-count c = c.count_by_ranks.ensures.count ∙ ap (λ (l : List ℕ). length (take c.args.most l)) (own_by_ranks c.args.k c.args.ranked.now.marks.now c.args.ranked.now.a.now c.args.ranked.now.b.now)

pub returns-clause-counts : goal.returns-clause-counts
returns-clause-counts c =
    subst (λ (l : List ℕ). AreCounted c.args.counts.now l c.count_by_ranks.new.counts) (ap (take c.args.most) (own_by_ranks c.args.k c.args.ranked.now.marks.now c.args.ranked.now.a.now c.args.ranked.now.b.now)) c.count_by_ranks.ensures.counts
