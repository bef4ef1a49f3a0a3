use Rattle.std.proofs.Common.{Some, arith}
use Rattle.std.proofs.lemmas.Int.{ints}
use Rattle.measure_laws.proofs.Weights.{low_weight-most, high_weight-most}
use Rattle.topic_ends.proofs.rank_powers.RankPowers.weight.Goals as goal

pub returns-in-Some-clause-lo_small : goal.returns-in-Some-clause-lo_small
returns-in-Some-clause-lo_small c =
    let known = c.self.inside.powers in
    omega (arith, ints, c.weight.ensures.lo, low_weight-most known.top known.bottom (Some c.in-Some.rank) (omega (arith, c.self.invariant.persistence.below_one)))

pub returns-in-Some-clause-hi_small : goal.returns-in-Some-clause-hi_small
returns-in-Some-clause-hi_small c =
    let known = c.self.inside.powers in
    let below = c.self.invariant.persistence.below_one in
    omega (arith, ints, c.weight.ensures.hi, high_weight-most known.top known.bottom (Some c.in-Some.rank) (omega (arith, below)) (omega (arith, below)))
