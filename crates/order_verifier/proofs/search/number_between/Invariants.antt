use Rattle.std.proofs.Common.{◌-◌}
use Rattle.order_verifier.proofs.search.number_between.Given as goal

abbrev pub decreases-loop-from : goal.decreases-loop-from
decreases-loop-from l = l.to - l.from
