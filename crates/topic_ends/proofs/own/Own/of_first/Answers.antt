use Rattle.std.proofs.Common.{arith, refl}
use Rattle.topic_ends.proofs.OwnSteps.{own_later, own_none, own_ordered, prefix_short}
use Rattle.topic_ends.proofs.own.Own.of_first.Goals as goal

pub loop-depth-init : goal.loop-depth-init
loop-depth-init c = own_none c.args.pair.now.marks.now c.args.pair.now.a.now c.args.pair.now.b.now _ refl

pub returns-clause-own : goal.returns-clause-own
returns-clause-own c =
    own_later c.args.pair.now.marks.now c.args.pair.now.a.now c.args.pair.now.b.now c.loop-depth.depth c.args.k c.loop-depth.own (omega arith) (λ l. omega arith) (λ l. omega arith) c.loop-depth.invariant

pub returns-clause-ordered : goal.returns-clause-ordered
returns-clause-ordered c =
    own_ordered c.args.pair.now.marks.now _ _ c.loop-depth.own (prefix_short c.args.k c.args.pair.now.a.now c.args.pair.now.first.short) (prefix_short c.args.k c.args.pair.now.b.now c.args.pair.now.second.short) (returns-clause-own c)
