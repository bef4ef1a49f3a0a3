use Rattle.std.proofs.Common.{◌≡◌, ℕ, ◌+◌, ◌<◌, true, List, length, get_or, map, sym, ap, ap₂, ◌∙◌, ◌++◌, ◌∷◌, [], take, subst, arith}
use Rattle.std.specs.Prelude.{All}
use Rattle.std.proofs.lemmas.List.{get_or-map, length-map, take_more}
use Rattle.std.proofs.lemmas.List.Elements.{All-push}
use Rattle.desk_model.specs.Name.{is_name}
use Rattle.run_reader.specs.Run.{Run}
use Rattle.topics_pool.specs.Rows.{run_names}
use Rattle.topics_pool.proofs.runs.names_of_runs.Goals as goal

mapped_step : {X Y : Type 0} (f : X → Y) (xs : List X) (i : ℕ) (x : X) → i < length xs → x ≡ get_or xs i x → take (i + 1) (map f xs) ≡ take i (map f xs) ++ f x ∷ []
mapped_step f xs i x lt is =
    let long = length-map xs f in
    take_more (map f xs) i (f x) (omega (arith, long)) ∙ ap (λ y. take i (map f xs) ++ y ∷ []) (get_or-map f xs i x (f x) lt ∙ ap f (sym is))

pub loop-run-preserved : goal.loop-run-preserved
loop-run-preserved c =
    let runs = c.args.runs.now in
    let i = c.loop-run.run-index in
    let taken = mapped_step (λ (run : Run). run.name) runs i c.run-item.result c.loop-run-test.true c.run-item.is in
    record {
      names = ◌∙◌ {A = List (List ℕ)} c.in_ok-push.ensures.items (ap₂ (λ xs x. xs ++ x ∷ []) c.loop-run.invariant.names (c.in_ok-copy_of.ensures ∙ c.name.ensures.value) ∙ sym taken);
      named = subst (All (λ name. is_name name ≡ true)) (sym taken) (All-push (λ name. is_name name ≡ true) (take i (run_names runs)) c.run-item.result.name c.loop-run.invariant.named c.name.ensures.name);
    }
