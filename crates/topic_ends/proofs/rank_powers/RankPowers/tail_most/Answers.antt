use Rattle.std.proofs.Common.{length, arith}
use Rattle.std.proofs.lemmas.Int.{ints}
use Rattle.measure_laws.proofs.Weights.{high_power-most}
use Rattle.topic_ends.proofs.rank_powers.RankPowers.tail_most.Goals as goal

pub returns-clause-small : goal.returns-clause-small
returns-clause-small c =
    let known = c.self.inside.powers in
    let below = c.self.invariant.persistence.below_one in
    omega (arith, ints, c.high.ensures.value, high_power-most known.top known.bottom (length c.docs.result.now) (omega (arith, below)) (omega (arith, below)))
