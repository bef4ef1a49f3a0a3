use Rattle.std.proofs.Common.{◌≡◌, length}
use Rattle.line_forms.proofs.Loops.{AreRead}
use Rattle.order_bundle.proofs.PickRows.{picks_in}
use Rattle.order_bundle.proofs.PickOrder.{next_topic}
use Rattle.order_bundle.proofs.claims.topic_picks.Given as goal

-- the lists of the topics so far were read
abbrev pub invariant-loop-topic : goal.invariant-loop-topic
invariant-loop-topic l = record {
  read : AreRead (picks_in l.topics) next_topic (length l.topics) 0 l.fn.lines.rest l.picks.items l.lines.rest;
  count : length l.picks.items ≡ l.topic-index;
}
