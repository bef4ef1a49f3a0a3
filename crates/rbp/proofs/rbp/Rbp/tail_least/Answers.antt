use Rattle.std.proofs.Common.{arith}
use Rattle.std.proofs.lemmas.Int.{ints}
use Rattle.measure_laws.proofs.Weights.{low_power-most}
use Rattle.rbp.proofs.rbp.Rbp.tail_least.Goals as goal

pub returns-then-kept-gt0-clause-small : goal.returns-then-kept-gt0-clause-small
returns-then-kept-gt0-clause-small c =
    let known = c.self.inside.powers in
    let small = low_power-most known.top known.bottom c.args.ranks (omega (arith, c.self.invariant.below)) in
    omega (arith, ints, c.low-kept.ensures, small)
