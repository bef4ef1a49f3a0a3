use Rattle.std.proofs.Common.{◌≡◌, ◌<◌, ◌∙◌, ◌^◌, Some, pos, neg_ℤ, ◌-ℤ◌, ◌≤ℤ◌, to_z, of_z, arith, ap}
use Rattle.std.specs.Int.{w128}
use Rattle.std.proofs.lemmas.Int.{ints}
use Rattle.measure_laws.specs.Powers.{low_weight, high_weight}
use Rattle.rbp.proofs.Share.{low_is, high_is, part_small}
use Rattle.rbp.specs.Persistence.{Persistence}
use Rattle.rbp.proofs.rbp.Rbp.share.Goals as goal

pub returns-clause-lo : goal.returns-clause-lo
returns-clause-lo c =
    let r = c.args.self.now in
    let bottom : 0 < r.bottom = omega (arith, c.self.invariant.below, ap (λ (p : Persistence). p.bottom) c.self.view_is) in
    let first = c.weight_at.ensures in
    let second = c.weight_at-2.ensures in
    let z : to_z w128 (of_z w128 c.alone-lo.result.lo) ≡ pos (low_weight r.top r.bottom (Some c.args.x)) -ℤ pos (high_weight r.top r.bottom (Some c.args.y)) = omega (arith, ints, c.alone-lo.ensures.lo, first.lo, second.hi, first.lo_small, second.hi_small) in
    let same : to_z w128 (of_z w128 c.unless.result) ≡ c.unless.result = omega (arith, ints) in
    same ∙ c.unless.ensures ∙ low_is r.top r.bottom c.args.x c.args.y _ bottom z

pub returns-clause-hi : goal.returns-clause-hi
returns-clause-hi c =
    let r = c.args.self.now in
    let bottom : 0 < r.bottom = omega (arith, c.self.invariant.below, ap (λ (p : Persistence). p.bottom) c.self.view_is) in
    let first = c.weight_at.ensures in
    let second = c.weight_at-2.ensures in
    let z : to_z w128 (of_z w128 c.alone-lo.result.hi) ≡ pos (high_weight r.top r.bottom (Some c.args.x)) -ℤ pos (low_weight r.top r.bottom (Some c.args.y)) = omega (arith, ints, c.alone-lo.ensures.hi, first.hi, second.lo, first.hi_small, second.lo_small) in
    let same : to_z w128 (of_z w128 c.unless-2.result) ≡ c.unless-2.result = omega (arith, ints) in
    same ∙ c.unless-2.ensures ∙ high_is r.top r.bottom c.args.x c.args.y _ bottom z

pub returns-clause-loose : goal.returns-clause-loose
returns-clause-loose c =
    let first = c.weight_at.ensures in
    let second = c.weight_at-2.ensures in
    let lo_least : neg_ℤ (pos (10 ^ 27)) ≤ℤ to_z w128 (of_z w128 c.alone-lo.result.lo) = omega (arith, ints, c.alone-lo.ensures.lo, first.lo, second.hi, second.hi_small) in
    let lo_most : to_z w128 (of_z w128 c.alone-lo.result.lo) ≤ℤ pos (10 ^ 27) = omega (arith, ints, c.alone-lo.ensures.lo, first.lo_small, second.hi) in
    let hi_least : neg_ℤ (pos (10 ^ 27)) ≤ℤ to_z w128 (of_z w128 c.alone-lo.result.hi) = omega (arith, ints, c.alone-lo.ensures.hi, first.hi, second.lo_small) in
    let hi_most : to_z w128 (of_z w128 c.alone-lo.result.hi) ≤ℤ pos (10 ^ 27) = omega (arith, ints, c.alone-lo.ensures.hi, first.hi_small, second.lo) in
    let lo : to_z w128 (of_z w128 c.unless.result) ≡ c.unless.result = omega (arith, ints) in
    let hi : to_z w128 (of_z w128 c.unless-2.result) ≡ c.unless-2.result = omega (arith, ints) in
    rw (lo ∙ c.unless.ensures, hi ∙ c.unless-2.ensures) (part_small _ (to_z w128 (of_z w128 c.alone-lo.result.lo)) (10 ^ 27) lo_least lo_most, part_small _ (to_z w128 (of_z w128 c.alone-lo.result.hi)) (10 ^ 27) hi_least hi_most)
