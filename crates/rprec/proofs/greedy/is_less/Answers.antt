use Rattle.std.proofs.Common.{◌≡◌, ℕ, ◌*◌, ◌≤◌, max, arith, ◌∙◌}
use Rattle.std.proofs.Math.Nat.{mul-le-mul_left, mul-le-mul_right}
use Rattle.desk_model.specs.Limits.{DOCUMENT_LIMIT, RANK_LIMIT}
use Rattle.rprec.proofs.greedy.is_less.Goals as goal

-- a product of the numbers of a run and of a topic
few : (m n x y : ℕ) → x ≡ m → y ≡ max n 1 → m ≤ RANK_LIMIT → n ≤ DOCUMENT_LIMIT → x * y ≤ RANK_LIMIT * DOCUMENT_LIMIT
few m n x y e f h k =
    let within : x ≤ RANK_LIMIT = omega arith in
    let known : y ≤ DOCUMENT_LIMIT = omega arith in
    omega (arith, mul-le-mul_right y within, mul-le-mul_left RANK_LIMIT known)

pub overflow_mul-result : goal.overflow_mul-result
overflow_mul-result c =
    let there = c.from-there.ensures ∙ c.max-2.ensures in
    omega (arith, few c.args.c.candidate.first c.args.best.candidate.count c.from.result _ c.from.ensures there c.args.c.small.first_few c.args.best.small.few)

pub overflow_mul-result-2 : goal.overflow_mul-result-2
overflow_mul-result-2 c =
    let here = c.from-here.ensures ∙ c.max.ensures in
    omega (arith, few c.args.best.candidate.second c.args.c.candidate.count c.from-2.result _ c.from-2.ensures here c.args.best.small.second_few c.args.c.small.few)

pub overflow_add-result : goal.overflow_add-result
overflow_add-result c =
    let here = c.from-here.ensures ∙ c.max.ensures in
    let there = c.from-there.ensures ∙ c.max-2.ensures in
    omega (arith, few c.args.c.candidate.first c.args.best.candidate.count c.from.result _ c.from.ensures there c.args.c.small.first_few c.args.best.small.few, few c.args.best.candidate.second c.args.c.candidate.count c.from-2.result _ c.from-2.ensures here c.args.best.small.second_few c.args.c.small.few)

pub overflow_mul-result-3 : goal.overflow_mul-result-3
overflow_mul-result-3 c =
    let here = c.from-here.ensures ∙ c.max.ensures in
    omega (arith, few c.args.best.candidate.first c.args.c.candidate.count c.from-3.result _ c.from-3.ensures here c.args.best.small.first_few c.args.c.small.few)

pub overflow_mul-result-4 : goal.overflow_mul-result-4
overflow_mul-result-4 c =
    let there = c.from-there.ensures ∙ c.max-2.ensures in
    omega (arith, few c.args.c.candidate.second c.args.best.candidate.count c.from-4.result _ c.from-4.ensures there c.args.c.small.second_few c.args.best.small.few)

pub overflow_add-result-2 : goal.overflow_add-result-2
overflow_add-result-2 c =
    let here = c.from-here.ensures ∙ c.max.ensures in
    let there = c.from-there.ensures ∙ c.max-2.ensures in
    omega (arith, few c.args.best.candidate.first c.args.c.candidate.count c.from-3.result _ c.from-3.ensures here c.args.best.small.first_few c.args.c.small.few, few c.args.c.candidate.second c.args.best.candidate.count c.from-4.result _ c.from-4.ensures there c.args.c.small.second_few c.args.best.small.few)

pub returns : goal.returns
returns c =
    let here : c.from-here.result ≡ max 1 c.args.c.candidate.count = omega (arith, c.from-here.ensures, c.max.ensures) in
    let there : c.from-there.result ≡ max 1 c.args.best.candidate.count = omega (arith, c.from-there.ensures, c.max-2.ensures) in
    rw (c.from.ensures, c.from-2.ensures, c.from-3.ensures, c.from-4.ensures, here, there)
