use Rattle.std.proofs.Common.{◌≡◌, map, take}
use Rattle.topics_pool.specs.Rows.{run_names}
use Rattle.desk_files.proofs.desk.copy_names.Given as goal

abbrev pub invariant-loop-run : goal.invariant-loop-run
invariant-loop-run l = record { copied : map (λ each. each.items) l.names.items ≡ take l.run-index (run_names l.runs) }
