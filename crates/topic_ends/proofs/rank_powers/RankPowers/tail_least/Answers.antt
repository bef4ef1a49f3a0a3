use Rattle.std.proofs.Common.{length, arith}
use Rattle.std.proofs.lemmas.Int.{ints}
use Rattle.measure_laws.proofs.Weights.{low_power-most}
use Rattle.topic_ends.proofs.rank_powers.RankPowers.tail_least.Goals as goal

pub returns-then-whole-gt0-clause-small : goal.returns-then-whole-gt0-clause-small
returns-then-whole-gt0-clause-small c =
    let known = c.self.inside.powers in
    omega (arith, ints, c.low-whole.ensures.value, low_power-most known.top known.bottom (length c.docs.result.now) (omega (arith, c.self.invariant.persistence.below_one)))
