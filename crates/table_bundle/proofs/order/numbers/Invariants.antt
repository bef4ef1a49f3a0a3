use Rattle.std.proofs.Common.{◌≡◌}
use Rattle.measure_core.specs.Pairs.{run_numbers}
use Rattle.table_bundle.proofs.order.numbers.Given as goal

abbrev pub invariant-loop-run : goal.invariant-loop-run
invariant-loop-run l = record { made : l.numbers.items ≡ run_numbers l.run }
