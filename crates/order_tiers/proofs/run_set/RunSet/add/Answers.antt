use Rattle.std.proofs.Common.{◌<◌, length, ap, sym, ◌∙◌, subst, arith}
use Rattle.order_tiers.specs.Rows.{has}
use Rattle.order_tiers.proofs.Bits.{in_words, length-row_of, added_has, added_keeps}
use Rattle.order_tiers.proofs.run_set.RunSet.add.Goals as goal

pub bounds-self-inside-run : goal.bounds-self-inside-run
bounds-self-inside-run c = (in_words c.self.inside.runs c.self.inside.words c.args.run c.self.invariant.few (subst (λ row. c.args.run < length row) (sym c.self.view_is) c.requires)).1

pub bounds-self-inside-run-2 : goal.bounds-self-inside-run-2
bounds-self-inside-run-2 c = (in_words c.self.inside.runs c.self.inside.words c.args.run c.self.invariant.few (subst (λ row. c.args.run < length row) (sym c.self.view_is) c.requires)).1

pub returns-clause-count : goal.returns-clause-count
returns-clause-count c = length-row_of _ _ ∙ sym (length-row_of c.self.inside.runs c.self.inside.words) ∙ ap length c.self.view_is

pub returns-clause-added : goal.returns-clause-added
returns-clause-added c =
    let enough = c.self.invariant.enough in
    let at = in_words c.self.inside.runs c.self.inside.words c.args.run c.self.invariant.few (subst (λ row. c.args.run < length row) (sym c.self.view_is) c.requires) in
    added_has c.self.inside.runs c.self.inside.words c.args.run at.0 (omega (arith, at.2, enough))

pub returns-clause-others : goal.returns-clause-others
returns-clause-others c other apart =
    let enough = c.self.invariant.enough in
    let at = in_words c.self.inside.runs c.self.inside.words c.args.run c.self.invariant.few (subst (λ row. c.args.run < length row) (sym c.self.view_is) c.requires) in
    added_keeps c.self.inside.runs c.self.inside.words c.args.run (omega (arith, at.2, enough)) other apart ∙ ap (λ row. has row other) c.self.view_is
