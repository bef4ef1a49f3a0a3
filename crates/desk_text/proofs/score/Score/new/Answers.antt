use Rattle.std.proofs.Common.{ap, sym, subst, ◌∙◌, rules, FitsSigned}
use Rattle.std.specs.Int.{w128}
use Rattle.std.specs.Int.RustNames.{unsigned_abs}
use Rattle.std.proofs.lemmas.Int.{to_z-of_z}
use Rattle.desk_text.specs.Text.{signed}
use Rattle.desk_text.specs.Key.{first_place, IsSize, value_of_key}
use Rattle.desk_text.proofs.Sizes.{value_of_signed, unsigned_abs-signed}
use Rattle.desk_text.proofs.score.Score.new.Goals as goal

pub returns : goal.returns
returns c =
    let fits : FitsSigned w128 c.with_sign.result = search rules in
    let place = to_z-of_z w128 c.args.place c.ranges.place in
    let value = rw place at c.size_of-size.ensures.value in
    ap value_of_key (to_z-of_z w128 c.with_sign.result fits ∙ c.with_sign.ensures)
    ∙ value_of_signed c.args.is_negative c.size_of-size.result ∙ ap (signed c.args.is_negative) value

pub invariant_of-result : goal.invariant_of-result
invariant_of-result c =
    let fits : FitsSigned w128 c.with_sign.result = search rules in
    let size = ap unsigned_abs (to_z-of_z w128 c.with_sign.result fits ∙ c.with_sign.ensures) ∙ unsigned_abs-signed c.args.is_negative c.size_of-size.result in
    subst (IsSize first_place) (sym size) c.size_of-size.ensures.size
