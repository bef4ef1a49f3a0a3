use Rattle.std.proofs.Common.{◌≡◌, ◌^◌, pos, ◌+ℤ◌, ◌<ℤ◌, ◌≤ℤ◌, to_z, of_z, arith}
use Rattle.std.specs.Int.{w128}
use Rattle.std.proofs.lemmas.Int.{ints}
use Rattle.rbp.proofs.Ends.{bounds_are, below_one, above_one}
use Rattle.rbp.proofs.rbp.RbpMeasure.bounds.Goals as goal

pub returns-then-most-lt-UNIT : goal.returns-then-most-lt-UNIT
returns-then-most-lt-UNIT c =
    let r = c.args.self.now in
    let lo : to_z w128 (of_z w128 c.weights-weights.result.relevant.lo) ≡ c.weights-weights.result.relevant.lo = omega (arith, ints) in
    let most : to_z w128 (of_z w128 (to_z w128 (of_z w128 c.weights-weights.result.possible.hi) +ℤ to_z w128 (of_z w128 c.tail_most.result))) ≡ c.weights-weights.result.possible.hi +ℤ c.tail_most.result = omega (arith, ints, c.tail_most.ensures) in
    let less : to_z w128 (of_z w128 (to_z w128 (of_z w128 c.weights-weights.result.possible.hi) +ℤ to_z w128 (of_z w128 c.tail_most.result))) <ℤ pos (10 ^ 18) = omega (arith, ints) in
    bounds_are r.top r.bottom c.args.marks.now c.args.a.now c.docs.result.now c.ranks_of.result c.weights-weights.result.relevant.lo c.weights-weights.result.possible.hi c.tail_most.result _ _ c.docs.ensures.docs c.ranks_of.ensures c.weights-weights.ensures.relevant_lo c.weights-weights.ensures.possible_hi c.tail_most.ensures.value lo
    (below_one c.weights-weights.result.possible.hi c.tail_most.result _ most less)

pub returns-else-most-lt-UNIT : goal.returns-else-most-lt-UNIT
returns-else-most-lt-UNIT c =
    let r = c.args.self.now in
    let lo : to_z w128 (of_z w128 c.weights-weights.result.relevant.lo) ≡ c.weights-weights.result.relevant.lo = omega (arith, ints) in
    let most : to_z w128 (of_z w128 (to_z w128 (of_z w128 c.weights-weights.result.possible.hi) +ℤ to_z w128 (of_z w128 c.tail_most.result))) ≡ c.weights-weights.result.possible.hi +ℤ c.tail_most.result = omega (arith, ints, c.tail_most.ensures) in
    let more : pos (10 ^ 18) ≤ℤ to_z w128 (of_z w128 (to_z w128 (of_z w128 c.weights-weights.result.possible.hi) +ℤ to_z w128 (of_z w128 c.tail_most.result))) = omega (arith, ints) in
    bounds_are r.top r.bottom c.args.marks.now c.args.a.now c.docs.result.now c.ranks_of.result c.weights-weights.result.relevant.lo c.weights-weights.result.possible.hi c.tail_most.result _ _ c.docs.ensures.docs c.ranks_of.ensures c.weights-weights.ensures.relevant_lo c.weights-weights.ensures.possible_hi c.tail_most.ensures.value lo
    (above_one c.weights-weights.result.possible.hi c.tail_most.result _ most more)
