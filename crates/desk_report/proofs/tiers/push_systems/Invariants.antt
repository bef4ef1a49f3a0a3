use Rattle.std.proofs.Common.{◌≡◌, ◌++◌, take}
use Rattle.std.specs.Prelude.{flat_map}
use Rattle.desk_report.specs.Table.{ended}
use Rattle.desk_report.specs.Tiers.{system_lines}
use Rattle.desk_report.proofs.tiers.push_systems.Given as goal

abbrev pub invariant-loop-run : goal.invariant-loop-run
invariant-loop-run l = l.out.items ≡ l.initial.out.items ++ flat_map ended (take l.run (system_lines l.desk.runs l.order.tiers))
