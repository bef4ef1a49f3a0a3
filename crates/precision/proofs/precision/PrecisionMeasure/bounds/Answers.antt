use Rattle.std.proofs.Common.{◌≡◌, to_z, of_z, arith}
use Rattle.std.specs.Int.{w128}
use Rattle.std.proofs.lemmas.Int.{ints}
use Rattle.precision.proofs.Ends.{bounds_read_are}
use Rattle.precision.proofs.precision.PrecisionMeasure.bounds.Goals as goal

pub returns : goal.returns
returns c =
    let lo : to_z w128 (of_z w128 c.from.result) ≡ c.range-lo.result.0 = omega (arith, ints) in
    let hi : to_z w128 (of_z w128 c.from-2.result) ≡ c.range-lo.result.1 = omega (arith, ints) in
    bounds_read_are c.args.self.now c.args.marks.now c.args.a.now _ _ _ _ c.range-lo.ensures.depth c.requires c.range-lo.ensures.bounds lo hi
