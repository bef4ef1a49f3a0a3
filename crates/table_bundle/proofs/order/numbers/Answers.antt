use Rattle.std.proofs.Common.{[], ◌∷◌, ◌++◌, ap, sym, ◌∙◌}
use Rattle.table_bundle.proofs.Choosing.{range_more}
use Rattle.table_bundle.proofs.order.numbers.Goals as goal

pub loop-run-preserved : goal.loop-run-preserved
loop-run-preserved c = record { made = c.in_ok-push.ensures.items ∙ ap (λ ns. ns ++ c.loop-run.run ∷ []) c.loop-run.invariant.made ∙ sym (range_more c.loop-run.run) }
