use Rattle.std.proofs.Common.{◌≡◌, ◌++◌, take, map}
use Rattle.std.specs.Prelude.{flat_map}
use Rattle.desk_report.specs.Table.{ended}
use Rattle.desk_report.specs.Tiers.{line_of_cover}
use Rattle.desk_report.proofs.tiers.push_covers.Given as goal

abbrev pub invariant-loop-cover : goal.invariant-loop-cover
invariant-loop-cover l = l.out.items ≡ l.initial.out.items ++ flat_map ended (take l.cover-index (map (line_of_cover l.desk.runs) l.covers))
