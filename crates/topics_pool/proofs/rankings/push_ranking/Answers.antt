use Rattle.std.proofs.Common.{List, ℕ, [], ◌∷◌, ◌++◌, set, map, ap, sym, ◌∙◌}
use Rattle.std.specs.Prelude.{Vec}
use Rattle.std.specs.declared.alloc.Global.{Global}
use Rattle.std.proofs.lemmas.List.{get_or-map, map-set}
use Rattle.topics_pool.proofs.rankings.push_ranking.Goals as goal

pub returns : goal.returns
returns c =
    let items = λ (each : Vec (List ℕ) Global). each.items in
    let rankings = c.args.rankings.now in
    map-set items rankings c.args.run c.push.new.self
    ∙ ap (set (map items rankings) c.args.run) (c.in_ok-push.ensures.items ∙ ap (λ per. per ++ c.args.ranking ∷ []) (sym (get_or-map items rankings c.args.run c.index-rankings-run.result [] c.requires)))
