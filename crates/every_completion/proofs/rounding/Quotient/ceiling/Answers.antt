use Rattle.std.proofs.Common.{FitsSigned, ◌≡◌, rules, to_z, of_z, arith, neg_ℤ, pos, ◌-ℤ◌, refl}
use Rattle.std.specs.Int.{w128}
use Rattle.std.proofs.lemmas.Int.{ints, to_z-of_z}
use Rattle.desk_model.proofs.Floors.{ceiling_is, floor_read}
use Rattle.every_completion.proofs.rounding.Quotient.ceiling.Goals as goal

pub returns : goal.returns
returns c =
    let fits_n : FitsSigned w128 c.args.self.n = search rules in
    let fits_d : FitsSigned w128 c.args.self.d = search rules in
    let n : to_z w128 (of_z w128 c.args.self.n) ≡ c.args.self.n = to_z-of_z w128 c.args.self.n fits_n in
    let d : to_z w128 (of_z w128 c.args.self.d) ≡ c.args.self.d = to_z-of_z w128 c.args.self.d fits_d in
    let swapped : to_z w128 (of_z w128 (pos 0 -ℤ to_z w128 (of_z w128 c.args.self.n))) ≡ neg_ℤ c.args.self.n = omega (arith, ints) in
    ceiling_is c.args.self.n (neg_ℤ c.args.self.n) c.args.self.d c.floor.result _ refl (omega (arith, ints)) (floor_read (neg_ℤ c.args.self.n) c.args.self.d _ _ c.floor.result swapped d c.floor.ensures.floor)
