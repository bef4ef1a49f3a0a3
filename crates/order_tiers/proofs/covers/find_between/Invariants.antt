use Rattle.std.proofs.Common.{◌≡◌, ◌↔◌, ℕ, ◌<◌, true, length}
use Rattle.order_tiers.specs.Rows.{has, AboveBy}
use Rattle.order_tiers.proofs.covers.find_between.Given as goal

abbrev pub invariant-loop-run : goal.invariant-loop-run
invariant-loop-run l = record {
  long : length l.between ≡ length l.first.of.rows.now;
  each : (b : ℕ) → (has l.between b ≡ true) ↔ ((c : ℕ) × (c < l.run) × AboveBy l.first.of.rows.now l.first.run c × AboveBy l.first.of.rows.now c b);
}
