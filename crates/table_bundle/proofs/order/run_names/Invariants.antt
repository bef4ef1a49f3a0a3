use Rattle.std.proofs.Common.{◌≡◌, take, map}
use Rattle.order_bundle.specs.Evidence.{name_at}
use Rattle.table_bundle.proofs.order.run_names.Given as goal

abbrev pub invariant-loop-run : goal.invariant-loop-run
invariant-loop-run l = record { made : l.names.items ≡ map (name_at l.desk.runs) (take l.run-index l.order) }
