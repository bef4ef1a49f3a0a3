use Rattle.std.proofs.Common.{arith}
use Rattle.std.proofs.lemmas.List.Folds.{list_any_none}
use Rattle.judge_session.specs.InForce.{is_live_on}
use Rattle.judge_session.proofs.marking.last_on.Goals as goal

pub returns : goal.returns
returns c = list_any_none (is_live_on c.args.topic c.args.doc) c.args.changes.now (λ k d lt. c.loop-place.invariant.after k d (omega arith) lt)
