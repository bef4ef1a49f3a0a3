use Rattle.std.proofs.Common.{FitsSigned, ◌∙◌, ◌≡◌, to_z, of_z, ap, rules}
use Rattle.std.specs.Int.{w128, int_div_euclid}
use Rattle.std.proofs.lemmas.Int.{to_z-of_z}
use Rattle.desk_model.proofs.Floors.{floor_is}
use Rattle.every_completion.proofs.rounding.Quotient.floor.Goals as goal

pub returns-clause-floor : goal.returns-clause-floor
returns-clause-floor c =
    let fits_n : FitsSigned w128 c.args.self.n = search rules in
    let fits_d : FitsSigned w128 c.args.self.d = search rules in
    let n : to_z w128 (of_z w128 c.args.self.n) ≡ c.args.self.n = to_z-of_z w128 c.args.self.n fits_n in
    let d : to_z w128 (of_z w128 c.args.self.d) ≡ c.args.self.d = to_z-of_z w128 c.args.self.d fits_d in
    let r : to_z w128 (of_z w128 c.div_euclid.result) ≡ c.div_euclid.result = to_z-of_z w128 c.div_euclid.result (record { sfits = c.div_euclid.type_inv }) in
    floor_is c.args.self.n c.args.self.d _ c.args.self.positive (r ∙ c.div_euclid.ensures ∙ ap (λ x. int_div_euclid x (to_z w128 (of_z w128 c.args.self.d))) n ∙ ap (λ x. int_div_euclid c.args.self.n x) d)
