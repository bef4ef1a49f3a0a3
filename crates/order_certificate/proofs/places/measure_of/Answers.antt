use Rattle.std.proofs.Common.{◌≡◌, ◌∙◌, ap, sym, subst, true, false}
use Rattle.std.specs.Prelude.{codes, not}
use Rattle.std.specs.Str.{bytes_eq}
use Rattle.std.proofs.lemmas.Slice.Eq.{bytes_eq-Decides}
use Rattle.desk_model.specs.MeasureText.{measure_text, IsTextOf}
use Rattle.order_certificate.proofs.Measures.{measure_is_text}
use Rattle.line_forms.proofs.WordParts.{after_word}
use Rattle.order_certificate.proofs.places.measure_of.Goals as goal

pub returns-in_default-read_measure : goal.returns-in_default-read_measure
returns-in_default-read_measure c m is e =
    let text = after_word (codes "measure ") c.args.line.now c.in-Some.text.now (measure_text m) c.in-Some.ensures.some e in
    c.in_default-read_measure.ensures.unknown m is (subst (IsTextOf m) (sym text) (measure_is_text m is))

pub returns-then-ne : goal.returns-then-ne
returns-then-ne c m is e =
    let text = after_word (codes "measure ") c.args.line.now c.in-Some.text.now (measure_text m) c.in-Some.ensures.some e in
    let same = c.measure_of_text_is_unique.ensures c.in-Some.text.now c.in-Ok.measure m c.in-Ok.ensures.measure is c.in-Ok.ensures.text (subst (IsTextOf m) (sym text) (measure_is_text m is)) in
    let printed = c.as_slice.ensures.value ∙ c.in_ok-printed.ensures ∙ ap measure_text same ∙ sym text in
    let alike : bytes_eq c.as_slice.result.now c.in-Some.text.now ≡ true = (bytes_eq-Decides c.as_slice.result.now c.in-Some.text.now).1 printed in
    let no : false ≡ true = sym (ap not alike) ∙ sym c.ne.ensures ∙ c.if-ne.true in
    cc
