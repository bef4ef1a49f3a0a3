use Rattle.std.proofs.Common.{◌∷◌, ◌++◌}
use Rattle.line_forms.proofs.WordParts.{after_word, weaker_none}
use Rattle.order_certificate.proofs.places.after_topic.Goals as goal

pub returns-in_err-text-2-clause-none : goal.returns-in_err-text-2-clause-none
returns-in_err-text-2-clause-none c =
    let topic = c.args.topic.now in
    rw c.from_residual-in_err-text-2.ensures (λ rest e. c.in_err-text-2.ensures.none (32 ∷ rest) (after_word c.args.word.now c.args.line.now c.in_ok-text.text.now (topic ++ 32 ∷ rest) c.in_ok-text.ensures.some e))

pub returns-clause-none : goal.returns-clause-none
returns-clause-none c =
    let topic = c.args.topic.now in
    let text = c.in_ok-text.text.now in
    weaker_none c.after-3.result (λ none rest e.
    none rest (after_word topic text c.in_ok-text-2.text.now (32 ∷ rest) c.in_ok-text-2.ensures.some (after_word c.args.word.now c.args.line.now text (topic ++ 32 ∷ rest) c.in_ok-text.ensures.some e))) c.after-3.ensures.none
