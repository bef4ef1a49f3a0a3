use Rattle.order_tiers.proofs.Tiering.{IsFilling}
use Rattle.order_tiers.proofs.tiers.fill_tiers.Given as goal

abbrev pub invariant-loop-run : goal.invariant-loop-run
invariant-loop-run l = IsFilling l.of.rows.now l.tiers l.count l.run
