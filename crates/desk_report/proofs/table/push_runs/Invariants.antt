use Rattle.std.proofs.Common.{◌≡◌, ◌++◌, take}
use Rattle.std.specs.Prelude.{flat_map}
use Rattle.desk_report.specs.Table.{ended, run_lines}
use Rattle.desk_report.proofs.table.push_runs.Given as goal

abbrev pub invariant-loop-r : goal.invariant-loop-r
invariant-loop-r l = l.out.items ≡ l.initial.out.items ++ flat_map ended (take l.r (run_lines l.numbers.parts.number l.numbers.desk.now.runs l.numbers.bounds.now))
