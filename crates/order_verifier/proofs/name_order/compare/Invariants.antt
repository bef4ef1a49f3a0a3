use Rattle.std.proofs.Common.{◌-◌}
use Rattle.std.specs.Slice.Scan.{HoldsNowhere, differ}
use Rattle.order_verifier.proofs.name_order.compare.Given as goal

abbrev pub invariant-loop-at : goal.invariant-loop-at
invariant-loop-at l = HoldsNowhere (differ l.a l.b) 0 l.at

abbrev pub decreases-loop-at : goal.decreases-loop-at
decreases-loop-at l = l.both - l.at
