use Rattle.std.proofs.Common.{◌<◌, length, ap, sym, ◌∙◌, subst, arith}
use Rattle.order_tiers.specs.Rows.{has}
use Rattle.order_tiers.proofs.Bits.{in_words, has-row_of}
use Rattle.order_tiers.proofs.run_set.RunSet.has.Goals as goal

pub has_bit-requires : goal.has_bit-requires
has_bit-requires c =
    let enough = c.self.invariant.enough in
    let at = in_words c.self.inside.runs c.self.inside.words c.args.run c.self.invariant.few (subst (λ row. c.args.run < length row) (sym c.self.view_is) c.requires) in
    omega (arith, at.2, enough)

pub returns : goal.returns
returns c =
    let at = in_words c.self.inside.runs c.self.inside.words c.args.run c.self.invariant.few (subst (λ row. c.args.run < length row) (sym c.self.view_is) c.requires) in
    c.has_bit.ensures ∙ sym (has-row_of c.self.inside.runs c.self.inside.words c.args.run at.0) ∙ ap (λ row. has row c.args.run) c.self.view_is
