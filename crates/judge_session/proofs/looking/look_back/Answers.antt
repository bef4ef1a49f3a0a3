use Rattle.std.proofs.Common.{arith, sym, ◌∙◌}
use Rattle.judge_session.proofs.LookingBack.{all_found}
use Rattle.judge_session.proofs.looking.look_back.Goals as goal

pub returns-then-is_all : goal.returns-then-is_all
returns-then-is_all c =
    let l = c.loop-place in
    all_found c.args.who.now c.args.topic c.args.doc 0 l.place l.place c.args.changes.now l.found (omega arith) l.invariant.found (sym c.is_all.ensures ∙ c.if-is_all.true)
