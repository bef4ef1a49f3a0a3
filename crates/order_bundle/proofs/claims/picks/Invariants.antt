use Rattle.std.proofs.Common.{◌≡◌, ◌-◌, length}
use Rattle.line_forms.specs.Rows.{key_after}
use Rattle.line_forms.proofs.Loops.{AreRead}
use Rattle.order_bundle.specs.Places.{pick_place}
use Rattle.order_bundle.proofs.PickOrder.{next_pick}
use Rattle.order_bundle.proofs.claims.picks.Given as goal

-- the numbers so far were read, and the next is at least this
abbrev pub invariant-loop-lines : goal.invariant-loop-lines
invariant-loop-lines l = record {
  read : AreRead (pick_place l.docs) next_pick l.count 0 l.fn.lines.rest l.picks.items l.lines.rest;
  least : l.least ≡ key_after next_pick 0 l.picks.items;
}

abbrev pub decreases-loop-lines : goal.decreases-loop-lines
decreases-loop-lines l = l.count - length l.picks.items
