use Rattle.std.proofs.Common.{sym, ◌∙◌, arith}
use Rattle.topic_universe.proofs.Ranks.{one_more_in_order}
use Rattle.topic_universe.proofs.entry.are_in_order.Goals as goal

pub loop-i-preserved : goal.loop-i-preserved
loop-i-preserved c =
    one_more_in_order c.args.rows.now c.loop-i.i (omega arith) (omega (arith, c.loop-i-test.true, c.len-i-end.ensures)) (λ d. sym (c.belongs_higher.ensures d) ∙ c.if-belongs_higher.false) c.loop-i.invariant
