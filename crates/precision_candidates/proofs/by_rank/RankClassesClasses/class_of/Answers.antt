use Rattle.std.proofs.Common.{ℕ, List, Option, not, ap, sym, ◌∙◌}
use Rattle.desk_model.specs.Completion.{picked_value}
use Rattle.desk_model.specs.Mark.{mark_at}
use Rattle.desk_model.specs.Ranking.{rank}
use Rattle.measure_core.specs.OneSide.{is_by}
use Rattle.precision_candidates.proofs.LastRanks.{class_by_rank}
use Rattle.precision_candidates.proofs.by_rank.RankClassesClasses.class_of.Goals as goal

pub returns : goal.returns
returns c =
    let r = c.args.self.now in
    let on = r.run.on in
    let marks = on.marks.now in
    let doc = c.args.doc in
    let ranked = c.rank_of.ensures ∙ ap (λ (docs : List ℕ). rank docs doc) (sym on.listed) in
    class_by_rank marks on.docs.now r.cuts doc c.class_by.result on.ranking.distinct r.are
    (c.class_by.ensures.high ∙ ap (λ (rank : Option ℕ). picked_value (is_by r.cuts.taken rank) (mark_at marks doc)) ranked)
    (c.class_by.ensures.low ∙ ap (λ (rank : Option ℕ). picked_value (not (is_by r.cuts.left_out rank)) (mark_at marks doc)) ranked)
