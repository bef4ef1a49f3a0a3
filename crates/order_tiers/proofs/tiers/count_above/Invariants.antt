use Rattle.std.proofs.Common.{◌≡◌, ◌≤◌, take, count_by}
use Rattle.order_tiers.specs.Rows.{has}
use Rattle.order_tiers.proofs.tiers.count_above.Given as goal

abbrev pub invariant-loop-other : goal.invariant-loop-other
invariant-loop-other l = record { counted : l.count ≡ count_by (λ row. has row l.row.run) (take l.other l.row.of.rows.now); within : l.count ≤ l.other }
