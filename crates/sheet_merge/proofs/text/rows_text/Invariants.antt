use Rattle.std.proofs.Common.{◌≡◌, take}
use Rattle.sheet_merge.specs.Text.{sheet_text}
use Rattle.sheet_merge.proofs.text.rows_text.Given as goal

abbrev pub invariant-loop-i : goal.invariant-loop-i
invariant-loop-i l = record { made : l.text.items ≡ sheet_text (take l.i l.rows) }
