use Rattle.std.proofs.Common.{◌-◌, ◌*◌, ◌≤◌, arith}
use Rattle.std.proofs.Math.Nat.{mul-le-mul}
use Rattle.desk_model.specs.Limits.{PARTS_OF_ONE, RANK_LIMIT}
use Rattle.precision_candidates.proofs.Visits.{few_open}
use Rattle.precision_candidates.proofs.pruned.estimate_at.Goals as goal

pub invariant_of-result : goal.invariant_of-result
invariant_of-result c =
    let side = c.args.side.now in
    let few : c.from.result ≤ RANK_LIMIT = omega (arith, c.from.ensures, few_open side.marks.now side.docs.now c.args.walk.passed side.ranking c.requires.within) in
    let small : c.args.totals.inverses - c.args.walk.inverses ≤ RANK_LIMIT * PARTS_OF_ONE = omega (arith, c.requires.inverses_small) in
    record { sum_small = omega (arith, c.requires.near_small, c.requires.far_small); slack_small = mul-le-mul few small; few = c.documents.ensures.few }
