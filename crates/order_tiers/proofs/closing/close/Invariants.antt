use Rattle.std.proofs.Common.{◌≡◌, length}
use Rattle.order_tiers.specs.Rows.{IsSquare}
use Rattle.order_tiers.proofs.Leading.{IsClosing}
use Rattle.order_tiers.proofs.closing.close.Given as goal

abbrev pub invariant-loop-via : goal.invariant-loop-via
invariant-loop-via l = record {
  square : IsSquare (length l.leads) l.rows;
  size : length l.leads ≡ length l.initial.leads;
  closing : IsClosing l.initial.rows l.rows l.via;
}
