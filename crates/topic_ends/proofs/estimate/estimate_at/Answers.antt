use Rattle.std.proofs.Common.{◌-◌, ◌*◌, ◌≤◌, arith}
use Rattle.std.proofs.Math.Nat.{mul-le-mul}
use Rattle.desk_model.specs.Limits.{PARTS_OF_ONE, RANK_LIMIT}
use Rattle.topic_ends.proofs.BestNumbers.{few_open}
use Rattle.topic_ends.proofs.estimate.estimate_at.Goals as goal

pub invariant_of-result : goal.invariant_of-result
invariant_of-result c =
    let run = c.args.run.now in
    let few : c.from.result ≤ RANK_LIMIT = omega (arith, c.from.ensures, few_open run.marks.now run.docs.now c.args.passed.unjudged run.ranking c.requires.within) in
    let small : c.args.totals.inverses - c.args.passed.inverses ≤ RANK_LIMIT * PARTS_OF_ONE = omega (arith, c.requires.inverses_small) in
    record { sum_small = omega (arith, c.requires.near_small, c.requires.far_small); slack_small = mul-le-mul few small; few = c.documents_in.ensures.few }
