use Rattle.std.proofs.Common.{Some, arith}
use Rattle.std.proofs.lemmas.Int.{ints}
use Rattle.measure_laws.proofs.Weights.{high_weight-most}
use Rattle.rbp.proofs.weights.HighWeightsRankWorth.worth_at.Goals as goal

pub overflow_cast-result : goal.overflow_cast-result
overflow_cast-result c =
    let powers = c.args.self.now.powers.now in
    omega (arith, ints, c.weight.ensures.hi, high_weight-most powers.top powers.bottom (Some c.in-Some.rank) (omega (arith, c.args.self.now.below)) (omega (arith, c.args.self.now.below)))
