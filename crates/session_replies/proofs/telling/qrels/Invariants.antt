use Rattle.std.proofs.Common.{◌≡◌}
use Rattle.session_replies.proofs.Judgements.{text_to}
use Rattle.session_replies.proofs.telling.qrels.Given as goal

abbrev pub invariant-loop-topic : goal.invariant-loop-topic
invariant-loop-topic l = l.out.items ≡ text_to l.desk l.session l.topic
