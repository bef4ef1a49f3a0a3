use Rattle.std.proofs.Common.{List, ℕ, [], ◌∷◌, ◌++◌, map, ap, ◌∙◌}
use Rattle.std.specs.Prelude.{Vec}
use Rattle.std.specs.declared.alloc.Global.{Global}
use Rattle.std.proofs.lemmas.List.{map-append}
use Rattle.topics_pool.specs.Made.{AreRankingsOf}
use Rattle.topic_universe.proofs.Zips.{zip_step}
use Rattle.topics_pool.proofs.rankings.no_rankings.Goals as goal

pub loop-run-preserved : goal.loop-run-preserved
loop-run-preserved c =
    let items = λ (each : Vec (List ℕ) Global). each.items in
    let none = c.in_ok-with_capacity.field-0 in
    let pushed = ap (map items) c.in_ok-push.ensures.items ∙ map-append items c.loop-run.rankings.items (none ∷ []) ∙ ap (λ per. map items c.loop-run.rankings.items ++ per ∷ []) c.in_ok-with_capacity.ensures.items in
    zip_step (AreRankingsOf []) c.args.runs.now (map items c.loop-run.rankings.items) _ c.loop-run._run-index c._run-item.result [] c.loop-run-test.true c._run-item.is c.loop-run.invariant tt pushed
