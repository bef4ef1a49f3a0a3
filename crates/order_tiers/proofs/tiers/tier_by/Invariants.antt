use Rattle.std.proofs.Common.{◌+◌, ◌≤◌, length}
use Rattle.order_tiers.specs.Rows.{AboveBy}
use Rattle.order_tiers.specs.Tiers.{IsTierOf, tier_in}
use Rattle.order_tiers.proofs.tiers.tier_by.Given as goal

abbrev pub invariant-loop-above : goal.invariant-loop-above
invariant-loop-above l = record { tier : IsTierOf (AboveBy l.row.of.rows.now) l.above (tier_in l.tiers) l.row.run l.tier; small : l.tier ≤ length l.row.of.rows.now + 2 }
