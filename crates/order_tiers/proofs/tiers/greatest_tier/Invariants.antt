use Rattle.std.proofs.Common.{◌≡◌, ◌<◌, ◌≤◌, ℕ, length}
use Rattle.order_tiers.specs.Tiers.{tier_in}
use Rattle.order_tiers.proofs.tiers.greatest_tier.Given as goal

abbrev pub invariant-loop-tier : goal.invariant-loop-tier
invariant-loop-tier l = record {
  reached : (k : ℕ) × (k < length l.tiers) × (tier_in l.tiers k ≡ l.greatest);
  others : (k : ℕ) → k < l.tier-index → tier_in l.tiers k ≤ l.greatest;
}
