use Rattle.std.proofs.Common.{◌≡◌, List, ℕ, [], ◌∷◌, ◌++◌, map, take, get_or, ap, sym, ◌∙◌, arith, Vec, Global}
use Rattle.std.proofs.lemmas.List.{take_more, map-append, length-map, get_or-map}
use Rattle.run_reader.specs.Run.{Run}
use Rattle.topics_pool.specs.Rows.{run_names}
use Rattle.desk_files.proofs.desk.copy_names.Goals as goal

pub loop-run-preserved : goal.loop-run-preserved
loop-run-preserved c =
    let items : Vec ℕ Global → List ℕ = λ each. each.items in
    let runs = c.args.runs.now in
    let i = c.loop-run.run-index in
    let name = c.in_ok-from_slice.field-0 in
    let same : name.items ≡ get_or (run_names runs) i [] = c.in_ok-from_slice.ensures.items ∙ c.name.ensures.value ∙ ap (λ (r : Run). r.name) c.run-item.is ∙ sym (get_or-map (λ (r : Run). r.name) runs i c.run-item.result [] (omega arith)) in
    record {
      copied = ap (map items) c.in_ok-push.ensures.items ∙ map-append items c.loop-run.names.items (name ∷ []) ∙ ap (λ xs. xs ++ name.items ∷ []) c.loop-run.invariant.copied
          ∙ ap (λ n. take i (run_names runs) ++ n ∷ []) same ∙ sym (take_more (run_names runs) i [] (omega (arith, length-map runs (λ (r : Run). r.name))));
    }
