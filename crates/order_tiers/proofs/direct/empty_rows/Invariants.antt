use Rattle.std.proofs.Common.{◌≡◌, length}
use Rattle.std.specs.Prelude.{All}
use Rattle.order_tiers.specs.Rows.{IsEmptyRow}
use Rattle.order_tiers.proofs.direct.empty_rows.Given as goal

abbrev pub invariant-loop-run : goal.invariant-loop-run
invariant-loop-run l = record { count : length l.rows.items ≡ l._run; empty : All (IsEmptyRow l.pairs.runs) l.rows.items }
