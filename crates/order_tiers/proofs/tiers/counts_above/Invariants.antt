use Rattle.std.proofs.Common.{◌≡◌, ◌<◌, ℕ, length}
use Rattle.order_tiers.specs.Rows.{count_above}
use Rattle.order_tiers.specs.Tiers.{tier_in}
use Rattle.order_tiers.proofs.tiers.counts_above.Given as goal

abbrev pub invariant-loop-run : goal.invariant-loop-run
invariant-loop-run l = record {
  long : length l.counts.items ≡ l.run;
  each : (k : ℕ) → k < l.run → tier_in l.counts.items k ≡ count_above l.of.rows.now k;
}
