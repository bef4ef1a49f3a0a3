use Rattle.std.proofs.Common.{[], ◌-◌, length, List, ℕ}
use Rattle.line_forms.proofs.Loops.{AreRead}
use Rattle.order_certificate.specs.Places.{low_high_place}
use Rattle.order_certificate.specs.declared.certificate.TopicBound.{TopicBound}
use Rattle.order_certificate.proofs.topics.lows_and_highs.Given as goal

-- the bounds so far were read
abbrev pub invariant-loop-alloc : goal.invariant-loop-alloc
invariant-loop-alloc l = AreRead low_high_place (λ (_ : List ℕ) (b : TopicBound). b.topic) l.count [] l.fn.lines.rest l.bounds.items l.lines.rest

abbrev pub decreases-loop-alloc : goal.decreases-loop-alloc
decreases-loop-alloc l = l.count - length l.bounds.items
