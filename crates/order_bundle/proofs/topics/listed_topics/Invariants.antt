use Rattle.std.proofs.Common.{[], ◌-◌, length}
use Rattle.line_forms.proofs.Loops.{AreRead}
use Rattle.order_bundle.specs.Places.{topic_places}
use Rattle.order_bundle.proofs.TopicRows.{topic_name}
use Rattle.order_bundle.proofs.topics.listed_topics.Given as goal

-- the topics so far were read
abbrev pub invariant-loop-alloc : goal.invariant-loop-alloc
invariant-loop-alloc l = AreRead topic_places (λ _ t. topic_name t) l.count [] l.fn.lines.rest l.topics.items l.lines.rest

abbrev pub decreases-loop-alloc : goal.decreases-loop-alloc
decreases-loop-alloc l = l.count - length l.topics.items
