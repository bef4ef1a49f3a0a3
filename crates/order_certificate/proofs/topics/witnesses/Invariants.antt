use Rattle.std.proofs.Common.{[], ◌-◌, length, List, ℕ}
use Rattle.line_forms.proofs.Loops.{AreRead}
use Rattle.order_certificate.specs.Places.{witness_places}
use Rattle.order_certificate.specs.declared.certificate.TopicWitness.{TopicWitness}
use Rattle.order_certificate.proofs.topics.witnesses.Given as goal

-- the witnesses so far were read
abbrev pub invariant-loop-alloc : goal.invariant-loop-alloc
invariant-loop-alloc l = AreRead witness_places (λ (_ : List ℕ) (w : TopicWitness). w.topic) l.count [] l.fn.lines.rest l.witnesses.items l.lines.rest

abbrev pub decreases-loop-alloc : goal.decreases-loop-alloc
decreases-loop-alloc l = l.count - length l.witnesses.items
