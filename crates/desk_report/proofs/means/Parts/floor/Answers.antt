use Rattle.std.proofs.Common.{◌≡◌, ◌^◌, to_z, of_z, arith, ap, ◌∙◌, pos, ◌*ℤ◌}
use Rattle.std.specs.Int.{w128, int_div_euclid}
use Rattle.std.proofs.lemmas.Int.{ints}
use Rattle.desk_report.proofs.Numbers.{quotient_within}
use Rattle.desk_report.proofs.means.Parts.floor.Goals as goal

pub returns : goal.returns
returns c =
    let n = c.args.sum.units *ℤ pos 1000000 in
    let scaled : to_z w128 (of_z w128 (to_z w128 (of_z w128 c.args.sum.units) *ℤ pos 1000000)) ≡ c.args.sum.units *ℤ pos 1000000 = omega (arith, ints) in
    let parts : to_z w128 c.args.self.number ≡ pos c.args.self.number = omega (arith, ints) in
    let result : to_z w128 (of_z w128 c.div_euclid.result) ≡ c.div_euclid.result = omega (arith, ints) in
    let is : to_z w128 (of_z w128 c.div_euclid.result) ≡ int_div_euclid (c.args.sum.units *ℤ pos 1000000) (pos c.args.self.number) =
    result ∙ c.div_euclid.ensures ∙ ap (λ x. int_div_euclid x (to_z w128 c.args.self.number)) scaled ∙ ap (λ x. int_div_euclid (c.args.sum.units *ℤ pos 1000000) x) parts in
    let range = quotient_within (c.args.sum.units *ℤ pos 1000000) c.args.self.number (10 ^ 36) (omega (arith, ints)) (omega (arith, ints)) in
    record { floor = is; low = rw is range.0; high = rw is range.1 }
