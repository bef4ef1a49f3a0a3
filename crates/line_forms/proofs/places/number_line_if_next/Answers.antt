use Rattle.std.proofs.Common.{◌≤◌, ◌++◌, ap, refl, sym, subst, ◌∙◌, decimal}
use Rattle.line_forms.specs.Form.{ended}
use Rattle.line_forms.specs.Reading.{BeginsWithNone, Left}
use Rattle.line_forms.proofs.places.number_line_if_next.Goals as goal

pub returns-in-Some : goal.returns-in-Some
returns-in-Some c =
    let line = c.args.word.now ++ decimal c.in-Some.number in
    let left = ap (λ (l : Left). l.rest) c.take_up_to.ensures in
    (c.in-Some.ensures.within, sym c.rest.ensures ∙ c.in-Some.ensures.some ∙ ap (λ z. ended line ++ z) (sym left))

pub returns-in-None : goal.returns-in-None
returns-in-None c = (subst (BeginsWithNone (λ n. c.args.word.now ++ decimal n) (λ n. (c.args.least ≤ n) × (n ≤ c.args.most))) c.rest.ensures c.in-None.ensures.none, refl)
