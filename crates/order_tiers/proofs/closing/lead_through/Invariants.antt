use Rattle.std.proofs.Common.{◌≡◌, ℕ, ◌<◌, ◌≤◌, ◌||◌, ◌&&◌, length}
use Rattle.order_tiers.specs.Rows.{has, is_above, IsSquare}
use Rattle.order_tiers.proofs.closing.lead_through.Given as goal

abbrev pub invariant-loop-run : goal.invariant-loop-run
invariant-loop-run l = record {
  square : IsSquare (length l.leads) l.rows;
  led : (a b : ℕ) → a < l.run → is_above l.rows a b ≡ (is_above l.initial.rows a b || (is_above l.initial.rows a l.via && has l.leads b));
  left : (a b : ℕ) → l.run ≤ a → is_above l.rows a b ≡ is_above l.initial.rows a b;
}
