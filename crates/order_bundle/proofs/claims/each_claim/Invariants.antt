use Rattle.std.proofs.Common.{◌≡◌, ◌-◌, length, None}
use Rattle.line_forms.specs.Rows.{key_after}
use Rattle.line_forms.proofs.Loops.{AreRead}
use Rattle.order_bundle.specs.Bundle.{last_pair}
use Rattle.order_bundle.specs.Places.{claim_places}
use Rattle.order_bundle.proofs.claims.each_claim.Given as goal

-- the claims so far were read, and this is the pair of the last
abbrev pub invariant-loop-alloc : goal.invariant-loop-alloc
invariant-loop-alloc l = record {
  read : AreRead (claim_places l.runs l.topics) last_pair l.count None l.fn.lines.rest l.claims.items l.lines.rest;
  last : l.last ≡ key_after last_pair None l.claims.items;
}

abbrev pub decreases-loop-alloc : goal.decreases-loop-alloc
decreases-loop-alloc l = l.count - length l.claims.items
