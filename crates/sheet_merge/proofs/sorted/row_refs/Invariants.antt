use Rattle.std.proofs.Common.{◌≡◌, take}
use Rattle.sheet_merge.proofs.sorted.row_refs.Given as goal

abbrev pub invariant-loop-i : goal.invariant-loop-i
invariant-loop-i l = record { made : l.rows.items ≡ take l.i l.table }
