use Rattle.std.proofs.Common.{subst, sym}
use Rattle.command_line.specs.Given.{IsOne, values_held}
use Rattle.command_line.proofs.Allowing.{fails_at, one_more, all_pass}
use Rattle.command_line.proofs.allowed.each_is_one.Goals as goal

pub returns-then-not-is_one : goal.returns-then-not-is_one
returns-then-not-is_one c =
    fails_at (λ name. IsOne (values_held c.args.given.now name)) c.args.names.now c.loop-name.name-index _ c.is_one.result c.loop-name-test.true
    (λ is. c.is_one.ensures.1 (subst IsOne (sym c.values.ensures) is)) c.if-not-is_one.true

pub loop-name-preserved : goal.loop-name-preserved
loop-name-preserved c = one_more (λ name. IsOne (values_held c.args.given.now name)) c.args.names.now c.loop-name.name-index _ c.loop-name-test.true c.loop-name.invariant (subst IsOne c.values.ensures (c.is_one.ensures.0 c.if-not-is_one.false))

pub returns : goal.returns
returns c = all_pass (λ name. IsOne (values_held c.args.given.now name)) c.args.names.now c.loop-name.name-index c.loop-name-test.false c.loop-name.invariant
