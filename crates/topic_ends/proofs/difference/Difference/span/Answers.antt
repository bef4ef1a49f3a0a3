use Rattle.std.proofs.Common.{◌≡◌, max, ◌^◌, pos, ◌-ℤ◌, ◌*ℤ◌, to_z, of_z, arith, ap}
use Rattle.std.specs.Int.{w128}
use Rattle.std.proofs.lemmas.Int.{ints}
use Rattle.desk_model.proofs.Floors.{floor_read, ceiling_read}
use Rattle.topic_ends.proofs.Whole.{floor_near}
use Rattle.topic_ends.proofs.difference.Difference.span.Goals as goal

pub returns-clause-floor : goal.returns-clause-floor
returns-clause-floor c =
    let num : to_z w128 (of_z w128 (to_z w128 (of_z w128 c.from.result) -ℤ to_z w128 (of_z w128 c.from-2.result))) ≡ pos c.args.self.first -ℤ pos c.args.self.second = omega (arith, ints) in
    let den : to_z w128 (of_z w128 c.from-3.result) ≡ pos (max 1 c.args.self.whole) = omega (arith, ints) in
    floor_read _ _ _ _ c.span_of.result.lo (ap (λ x. pos (10 ^ 18) *ℤ x) num) den c.span_of.ensures.floor

pub returns-clause-ceiling : goal.returns-clause-ceiling
returns-clause-ceiling c =
    let num : to_z w128 (of_z w128 (to_z w128 (of_z w128 c.from.result) -ℤ to_z w128 (of_z w128 c.from-2.result))) ≡ pos c.args.self.first -ℤ pos c.args.self.second = omega (arith, ints) in
    let den : to_z w128 (of_z w128 c.from-3.result) ≡ pos (max 1 c.args.self.whole) = omega (arith, ints) in
    ceiling_read _ _ _ _ c.span_of.result.hi (ap (λ x. pos (10 ^ 18) *ℤ x) num) den c.span_of.ensures.ceiling

pub returns-clause-near : goal.returns-clause-near
returns-clause-near c =
    floor_near (pos (10 ^ 18) *ℤ (pos c.args.self.first -ℤ pos c.args.self.second)) c.span_of.result.lo (max 1 c.args.self.whole) (omega arith) (omega (arith, ints)) (omega (arith, ints)) (returns-clause-floor c)
