use Rattle.std.proofs.Common.{◌≡◌, true, take}
use Rattle.std.specs.Prelude.{All}
use Rattle.desk_model.specs.Name.{is_name}
use Rattle.topics_pool.specs.Rows.{run_names}
use Rattle.topics_pool.proofs.runs.names_of_runs.Given as goal

abbrev pub invariant-loop-run : goal.invariant-loop-run
invariant-loop-run l = record { names : l.names.items ≡ take l.run-index (run_names l.runs); named : All (λ name. is_name name ≡ true) (take l.run-index (run_names l.runs)) }
