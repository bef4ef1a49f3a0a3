use Rattle.std.proofs.Common.{arith}
use Rattle.std.proofs.lemmas.Int.{ints}
use Rattle.measure_laws.proofs.Weights.{high_power-most}
use Rattle.rbp.proofs.rbp.Rbp.tail_most.Goals as goal

pub returns-clause-small : goal.returns-clause-small
returns-clause-small c =
    let known = c.self.inside.powers in
    let small = high_power-most known.top known.bottom c.args.ranks (omega (arith, c.self.invariant.below)) (omega (arith, c.self.invariant.below)) in
    omega (arith, ints, c.high.ensures, small)
