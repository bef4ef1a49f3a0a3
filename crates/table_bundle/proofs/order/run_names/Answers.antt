use Rattle.std.proofs.Common.{◌≡◌, [], ◌∷◌, ◌++◌, get_or, map, take, ap, sym, ◌∙◌}
use Rattle.std.proofs.lemmas.List.{map_more}
use Rattle.std.proofs.lemmas.Option.{get_or_from_slice_get}
use Rattle.order_bundle.specs.Evidence.{name_at}
use Rattle.table_bundle.proofs.order.run_names.Goals as goal

pub loop-run-preserved : goal.loop-run-preserved
loop-run-preserved c =
    let runs = c.args.desk.now.runs in
    let order = c.args.order.now in
    let i = c.loop-run.run-index in
    let named : c.in_ok-name.name ≡ name_at runs (get_or order i 0) = c.in_ok-name.ensures ∙ sym (get_or_from_slice_get runs (get_or order i 0) c.run_name.result.now [] c.run_name.ensures) in
    record {
      made = c.in_ok-push.ensures.items ∙ ap (λ ns. ns ++ c.in_ok-name.name ∷ []) c.loop-run.invariant.made ∙ ap (λ n. map (name_at runs) (take i order) ++ n ∷ []) named
          ∙ sym (map_more (name_at runs) order i 0 c.loop-run-test.true);
    }
