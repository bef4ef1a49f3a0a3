use Rattle.std.proofs.Common.{◌≡◌, true, take}
use Rattle.std.specs.Prelude.{All}
use Rattle.sheet_merge.specs.Sheet.{SheetRow}
use Rattle.sheet_merge.specs.Placed.{is_placed}
use Rattle.sheet_merge.proofs.placing.check_placed.Given as goal

abbrev pub invariant-loop-i : goal.invariant-loop-i
invariant-loop-i l = record { earlier : All (λ (row : SheetRow). is_placed l.desk row.0 ≡ true) (take l.i l.rows) }
