use Rattle.std.proofs.Common.{◌≡◌, take}
use Rattle.sheet_merge.proofs.sorted.copied.Given as goal

abbrev pub invariant-loop-i : goal.invariant-loop-i
invariant-loop-i l = record { made : l.copies ≡ take l.i l.rows }
