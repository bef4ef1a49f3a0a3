use Rattle.std.proofs.Common.{Some, arith}
use Rattle.std.proofs.lemmas.Int.{ints}
use Rattle.measure_laws.proofs.Weights.{low_weight-most, high_weight-most}
use Rattle.rbp.proofs.rbp.Rbp.weight_at.Goals as goal

pub returns-in-Some-clause-lo_small : goal.returns-in-Some-clause-lo_small
returns-in-Some-clause-lo_small c =
    let known = c.self.inside.powers in
    let small = low_weight-most known.top known.bottom (Some c.in-Some.rank) (omega (arith, c.self.invariant.below)) in
    omega (arith, ints, c.weight.ensures.lo, small)

pub returns-in-Some-clause-hi_small : goal.returns-in-Some-clause-hi_small
returns-in-Some-clause-hi_small c =
    let known = c.self.inside.powers in
    let small = high_weight-most known.top known.bottom (Some c.in-Some.rank) (omega (arith, c.self.invariant.below)) (omega (arith, c.self.invariant.below)) in
    omega (arith, ints, c.weight.ensures.hi, small)
