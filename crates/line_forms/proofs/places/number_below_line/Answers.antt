use Rattle.std.proofs.Common.{◌++◌, [], ◌∷◌, ap, refl, sym, ◌∙◌, append-nil, decimal, arith}
use Rattle.line_forms.specs.Form.{ended}
use Rattle.line_forms.specs.Reading.{Left}
use Rattle.line_forms.proofs.places.number_below_line.Goals as goal

pub returns-in-Some : goal.returns-in-Some
returns-in-Some c =
    let line = c.args.word.now ++ decimal c.in-Some.number in
    let least = c.if-least-from.true in
    let below = c.if-from-end.true in
    let left = ap (λ (l : Left). l.rest) c.take_up_to.ensures in
    record {
      lines = line ∷ [];
      split = sym c.rest.ensures ∙ c.in-Some.ensures ∙ ap (λ z. ended line ++ z) (sym left) ∙ ap (λ z. z ++ c.take_up_to.new.self.rest) (sym (append-nil (ended line)));
      spells = (c.in-Some.number, (omega (arith, least, c.from.ensures), omega (arith, below, c.from-then-least-from.ensures)), refl, refl);
    }
