use Rattle.std.proofs.Common.{◌+◌, ◌-◌, ◌≤◌, drop, length}
use Rattle.std.specs.Prelude.{All}
use Rattle.sheet_merge.specs.Sheet.{IsSheetRow}
use Rattle.sheet_merge.specs.declared.limits.TheConstants.{ENTRY_LIMIT}
use Rattle.sheet_merge.proofs.Walking.{IsWalked}
use Rattle.sheet_merge.proofs.merge.merged.Given as goal

abbrev pub invariant-loop-i : goal.invariant-loop-i
invariant-loop-i l = record {
  walked : IsWalked l.a l.b l.rows (drop l.i l.a) (drop l.j l.b);
  few : length l.rows ≤ ENTRY_LIMIT;
  right : All IsSheetRow l.rows;
  i_in : l.i ≤ length l.a;
  j_in : l.j ≤ length l.b;
}

abbrev pub decreases-loop-i : goal.decreases-loop-i
decreases-loop-i l = length l.a + length l.b - (l.i + l.j)
