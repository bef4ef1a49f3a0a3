use Rattle.std.proofs.Common.{◌≡◌, to_z, of_z, arith, neg_ℤ, pos, ◌-ℤ◌, refl}
use Rattle.std.specs.Int.{w128}
use Rattle.std.proofs.lemmas.Int.{ints, to_z-of_z}
use Rattle.desk_model.proofs.Floors.{ceiling_is, floor_read}
use Rattle.topic_counts.proofs.span.ceiling.Goals as goal

pub returns : goal.returns
returns c =
    let n : to_z w128 (of_z w128 c.args.n) ≡ c.args.n = to_z-of_z w128 c.args.n c.ranges.n in
    let d : to_z w128 (of_z w128 c.args.d) ≡ c.args.d = to_z-of_z w128 c.args.d c.ranges.d in
    let swapped : to_z w128 (of_z w128 (pos 0 -ℤ to_z w128 (of_z w128 c.args.n))) ≡ neg_ℤ c.args.n = omega (arith, ints) in
    ceiling_is c.args.n (neg_ℤ c.args.n) c.args.d c.floor.result _ refl (omega (arith, ints)) (floor_read (neg_ℤ c.args.n) c.args.d _ _ c.floor.result swapped d c.floor.ensures.floor)
