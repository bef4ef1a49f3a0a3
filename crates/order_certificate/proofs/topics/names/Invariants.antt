use Rattle.std.proofs.Common.{[], ◌-◌, length}
use Rattle.line_forms.specs.Places.{later_name_place}
use Rattle.line_forms.proofs.Loops.{AreRead}
use Rattle.order_certificate.proofs.RowKinds.{same_name}
use Rattle.order_certificate.proofs.topics.names.Given as goal

-- the names so far were read
abbrev pub invariant-loop-alloc : goal.invariant-loop-alloc
invariant-loop-alloc l = AreRead (later_name_place l.word) same_name l.count [] l.fn.lines.rest l.names.items l.lines.rest

abbrev pub decreases-loop-alloc : goal.decreases-loop-alloc
decreases-loop-alloc l = l.count - length l.names.items
