use Rattle.std.proofs.Common.{◌≡◌, max, ◌^◌, pos, ◌-ℤ◌, ◌*ℤ◌, ◌≤ℤ◌, to_z, of_z, arith, subst, sym}
use Rattle.std.specs.Int.{w128}
use Rattle.std.proofs.lemmas.Int.{ints, to_z-of_z}
use Rattle.topic_ends.specs.Differences.{IsLowered}
use Rattle.topic_ends.proofs.Whole.{times_read, times_fits, times_order}
use Rattle.topic_ends.proofs.difference.Difference.lowered.Goals as goal

pub overflow_mul-low : goal.overflow_mul-low
overflow_mul-low c =
    let low : to_z w128 (of_z w128 c.args.low) ≡ c.args.low = to_z-of_z w128 c.args.low c.ranges.low in
    let whole : to_z w128 (of_z w128 c.from-3.result) ≡ pos (max 1 c.args.self.whole) = omega (arith, ints) in
    times_fits _ _ c.args.low (max 1 c.args.self.whole) low whole c.requires.near (omega arith)

pub returns-then-lead-low-clause-lowered : goal.returns-then-lead-low-clause-lowered
returns-then-lead-low-clause-lowered c =
    let d = max 1 c.args.self.whole in
    let low : to_z w128 (of_z w128 c.args.low) ≡ c.args.low = to_z-of_z w128 c.args.low c.ranges.low in
    let whole : to_z w128 (of_z w128 c.from-3.result) ≡ pos d = omega (arith, ints) in
    let product = times_read _ _ c.args.low d low whole c.requires.near (omega arith) in
    let lead : to_z w128 (of_z w128 (to_z w128 (of_z w128 c.from.result) -ℤ to_z w128 (of_z w128 c.from-2.result))) ≡ pos c.args.self.first -ℤ pos c.args.self.second = omega (arith, ints) in
    let same : to_z w128 (of_z w128 c.floor.result) ≡ c.floor.result = to_z-of_z w128 c.floor.result (record { sfits = c.floor.type_inv }) in
    let below : c.floor.result ≤ℤ c.args.low = times_order c.floor.result c.args.low d (omega arith) (omega (arith, ints, c.floor.ensures.floor.so, c.if-lead-low.true, product, lead)) in
    subst (IsLowered c.args.self c.args.low) (sym same) (record { so = (below, c.floor.ensures.floor.so); others = λ w h. c.floor.ensures.floor.others w h.1 })

pub returns-else-lead-low-clause-lowered : goal.returns-else-lead-low-clause-lowered
returns-else-lead-low-clause-lowered c =
    let d = max 1 c.args.self.whole in
    let low : to_z w128 (of_z w128 c.args.low) ≡ c.args.low = to_z-of_z w128 c.args.low c.ranges.low in
    let whole : to_z w128 (of_z w128 c.from-3.result) ≡ pos d = omega (arith, ints) in
    let product = times_read _ _ c.args.low d low whole c.requires.near (omega arith) in
    let lead : to_z w128 (of_z w128 (to_z w128 (of_z w128 c.from.result) -ℤ to_z w128 (of_z w128 c.from-2.result))) ≡ pos c.args.self.first -ℤ pos c.args.self.second = omega (arith, ints) in
    let below : (c.args.low *ℤ pos d) ≤ℤ (pos (10 ^ 18) *ℤ (pos c.args.self.first -ℤ pos c.args.self.second)) = omega (arith, ints, c.if-lead-low.false, product, lead) in
    subst (IsLowered c.args.self c.args.low) (sym low) (record { so = (omega (arith, ints), below); others = λ w h. h.0 })
