use Rattle.std.proofs.Common.{take, sym, ap, ◌∙◌}
use Rattle.desk_model.specs.Ranking.{is_in}
use Rattle.desk_model.proofs.Unranked.{unranked_in}
use Rattle.desk_model.proofs.Pools.{ranked_in}
use Rattle.desk_model.proofs.pool.is_ranked.Goals as goal

pub returns-in-Some : goal.returns-in-Some
returns-in-Some c =
    ranked_in c.ranking.result.now c.args.doc c.args.depth c.in-Some.rank (sym c.rank_of.ensures ∙ c.in-Some.is) ∙ ap (λ docs. is_in (take c.args.depth docs) c.args.doc) c.ranking.ensures.ranking

pub returns-in-None : goal.returns-in-None
returns-in-None c =
    sym (unranked_in c.ranking.result.now c.args.doc c.args.depth (sym c.rank_of.ensures ∙ c.in-None.is)) ∙ ap (λ docs. is_in (take c.args.depth docs) c.args.doc) c.ranking.ensures.ranking
