use Rattle.session_replies.proofs.Unique.{one_reply}
use Rattle.session_replies.proofs.laws.replies_are_one.Goals as goal

pub returns : goal.returns
returns c = one_reply c.next_is_one.ensures
