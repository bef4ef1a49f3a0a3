use Rattle.std.proofs.Common.{[], ◌∷◌, ◌++◌, decimal, arith}
use Rattle.std.specs.Prelude.{codes}
use Rattle.std.proofs.lemmas.List.{append_cancel_left}
use Rattle.line_forms.proofs.WordParts.{after_word}
use Rattle.order_certificate.proofs.places.high_count_of.Goals as goal

pub returns-in-None : goal.returns-in-None
returns-in-None c n few e =
    let topic = c.args.topic.now in
    let text = c.in-Some.text.now in
    let after = after_word (codes "high ") c.args.line.now (topic ++ 32 ∷ text) (topic ++ 32 ∷ decimal n) c.in-Some.ensures.some e in
    c.in-None.ensures.none n (omega arith) few (append_cancel_left (32 ∷ []) text (decimal n) (append_cancel_left topic (32 ∷ text) (32 ∷ decimal n) after))
