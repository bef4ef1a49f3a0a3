use Rattle.std.proofs.Common.{◌-◌, length}
use Rattle.line_forms.proofs.Loops.{AreRead}
use Rattle.order_bundle.specs.Places.{both_bounds_place}
use Rattle.order_bundle.proofs.PickRows.{same_key}
use Rattle.order_bundle.proofs.claims.both_bounds.Given as goal

-- the numbers so far were read
abbrev pub invariant-loop-lines : goal.invariant-loop-lines
invariant-loop-lines l = AreRead both_bounds_place same_key l.topics tt l.fn.lines.rest l.bounds.items l.lines.rest

abbrev pub decreases-loop-lines : goal.decreases-loop-lines
decreases-loop-lines l = l.topics - length l.bounds.items
