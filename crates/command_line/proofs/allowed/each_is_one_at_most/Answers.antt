use Rattle.std.proofs.Common.{subst, sym}
use Rattle.command_line.specs.Given.{IsOneAtMost, values_held}
use Rattle.command_line.proofs.Allowing.{fails_at, one_more, all_pass}
use Rattle.command_line.proofs.allowed.each_is_one_at_most.Goals as goal

pub returns-then-not-is_one_at_most : goal.returns-then-not-is_one_at_most
returns-then-not-is_one_at_most c =
    fails_at (λ name. IsOneAtMost (values_held c.args.given.now name)) c.args.names.now c.loop-name.name-index _ c.is_one_at_most.result c.loop-name-test.true
    (λ is. c.is_one_at_most.ensures.1 (subst IsOneAtMost (sym c.values.ensures) is)) c.if-not-is_one_at_most.true

pub loop-name-preserved : goal.loop-name-preserved
loop-name-preserved c = one_more (λ name. IsOneAtMost (values_held c.args.given.now name)) c.args.names.now c.loop-name.name-index _ c.loop-name-test.true c.loop-name.invariant (subst IsOneAtMost c.values.ensures (c.is_one_at_most.ensures.0 c.if-not-is_one_at_most.false))

pub returns : goal.returns
returns c = all_pass (λ name. IsOneAtMost (values_held c.args.given.now name)) c.args.names.now c.loop-name.name-index c.loop-name-test.false c.loop-name.invariant
