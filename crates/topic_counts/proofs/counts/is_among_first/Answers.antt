use Rattle.std.proofs.Common.{◌≡◌, Some, None, ap, sym, ◌∙◌}
use Rattle.desk_model.specs.Ranking.{rank}
use Rattle.topic_counts.proofs.Prefixes.{is_by, rank_by}
use Rattle.topic_counts.proofs.counts.is_among_first.Goals as goal

pub returns-in-Some : goal.returns-in-Some
returns-in-Some c =
    let found : Some c.in-Some.rank ≡ rank c.args.ranking.now c.args.doc = c.in-Some.ensures in
    ap (is_by c.args.k) found ∙ sym (rank_by c.args.k c.args.doc c.args.ranking.now)

pub returns-in-None : goal.returns-in-None
returns-in-None c =
    let none : None ≡ rank c.args.ranking.now c.args.doc = c.in-None.ensures in
    ap (is_by c.args.k) none ∙ sym (rank_by c.args.k c.args.doc c.args.ranking.now)
