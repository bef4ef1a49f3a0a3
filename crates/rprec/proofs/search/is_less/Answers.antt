use Rattle.std.proofs.Common.{◌≡◌, ℕ, ◌*◌, ◌≤◌, max, arith}
use Rattle.std.proofs.Math.Nat.{mul-le-mul_left, mul-le-mul_right}
use Rattle.desk_model.specs.Limits.{RANK_LIMIT}
use Rattle.rprec.proofs.search.is_less.Goals as goal

-- a product of two numbers of a run
few : (m n y : ℕ) → y ≡ max n 1 → m ≤ RANK_LIMIT → n ≤ RANK_LIMIT → m * y ≤ RANK_LIMIT * RANK_LIMIT
few m n y e h k =
    let known : y ≤ RANK_LIMIT = omega arith in
    omega (arith, mul-le-mul_right y h, mul-le-mul_left RANK_LIMIT known)

pub overflow_mul-result : goal.overflow_mul-result
overflow_mul-result c = omega (arith, few c.args.c.candidate.first c.args.best.candidate.count _ c.max-there.ensures c.args.c.near.first_few c.args.best.near.few)

pub overflow_mul-result-2 : goal.overflow_mul-result-2
overflow_mul-result-2 c = omega (arith, few c.args.best.candidate.second c.args.c.candidate.count _ c.max-here.ensures c.args.best.near.second_few c.args.c.near.few)

pub overflow_add-result : goal.overflow_add-result
overflow_add-result c = omega (arith, few c.args.c.candidate.first c.args.best.candidate.count _ c.max-there.ensures c.args.c.near.first_few c.args.best.near.few, few c.args.best.candidate.second c.args.c.candidate.count _ c.max-here.ensures c.args.best.near.second_few c.args.c.near.few)

pub overflow_mul-result-3 : goal.overflow_mul-result-3
overflow_mul-result-3 c = omega (arith, few c.args.best.candidate.first c.args.c.candidate.count _ c.max-here.ensures c.args.best.near.first_few c.args.c.near.few)

pub overflow_mul-result-4 : goal.overflow_mul-result-4
overflow_mul-result-4 c = omega (arith, few c.args.c.candidate.second c.args.best.candidate.count _ c.max-there.ensures c.args.c.near.second_few c.args.best.near.few)

pub overflow_add-result-2 : goal.overflow_add-result-2
overflow_add-result-2 c = omega (arith, few c.args.best.candidate.first c.args.c.candidate.count _ c.max-here.ensures c.args.best.near.first_few c.args.c.near.few, few c.args.c.candidate.second c.args.best.candidate.count _ c.max-there.ensures c.args.c.near.second_few c.args.best.near.few)

pub returns : goal.returns
returns c =
    let here : c.max-here.result ≡ max 1 c.args.c.candidate.count = omega (arith, c.max-here.ensures) in
    let there : c.max-there.result ≡ max 1 c.args.best.candidate.count = omega (arith, c.max-there.ensures) in
    rw (here, there)
