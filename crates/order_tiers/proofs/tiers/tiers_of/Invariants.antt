use Rattle.order_tiers.specs.Rows.{HaveTiersBelow}
use Rattle.order_tiers.proofs.tiers.tiers_of.Given as goal

abbrev pub invariant-loop-count : goal.invariant-loop-count
invariant-loop-count l = HaveTiersBelow l.of.rows.now l.tiers.items l.count
