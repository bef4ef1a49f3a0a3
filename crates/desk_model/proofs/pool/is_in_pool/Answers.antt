use Rattle.std.proofs.Common.{◌≡◌, [], List, ℕ, false, take, get_or, sym, arith}
use Rattle.std.proofs.lemmas.List.Folds.{list_any_none}
use Rattle.std.proofs.lemmas.List.Elements.{All-from_get_or}
use Rattle.desk_model.specs.Ranking.{is_in}
use Rattle.desk_model.proofs.pool.is_in_pool.Goals as goal

pub returns : goal.returns
returns c =
    let test = λ (rankings : List (List ℕ)). is_in (take c.args.depth (get_or rankings c.args.topic [])) c.args.doc in
    let rankings = c.args.desk.now.rankings in
    sym (list_any_none test rankings (All-from_get_or (λ each. test each ≡ false) rankings [] (λ i lt.
    c.loop-run.invariant i (omega (arith, lt, c.loop-run-test.false, c.run_count-run-end.ensures.count, c.run_count-run-end.ensures.desk.ranked)))))
