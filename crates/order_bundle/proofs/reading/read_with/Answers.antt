use Rattle.std.proofs.Common.{◌≡◌, ◌≢◌, [], ◌++◌, ap, sym, subst, length, ◌∙◌}
use Rattle.std.specs.Prelude.{Err}
use Rattle.std.proofs.lemmas.Bool.{eqb-true, eqb-false}
use Rattle.std.proofs.lemmas.List.{nil_from_length}
use Rattle.line_forms.specs.Form.{text_of}
use Rattle.order_bundle.specs.Places.{places_with}
use Rattle.line_forms.specs.Reading.{Left, BeginsWith, FailsAt, IsReading}
use Rattle.line_forms.proofs.LineNumbers.{bad_line, line_after, not_longer, whole_text}
use Rattle.order_bundle.proofs.Either.{places_plain}
use Rattle.order_bundle.proofs.reading.read_with.Goals as goal

pub returns-then-is_empty : goal.returns-then-is_empty
returns-then-is_empty c =
    let certificate = c.in-Ok.certificate in
    let whole = subst (λ z. BeginsWith (places_with c.args.depths) z certificate c.certificate_with.new.lines.rest) (ap (λ (l : Left). l.rest) c.new-lines.ensures) c.in-Ok.ensures in
    let begins = subst (λ z. BeginsWith (places_with c.args.depths) c.args.bytes.now certificate z) (sym c.rest-rest.ensures) whole in
    let none : c.rest-rest.result.now ≡ [] = nil_from_length c.rest-rest.result.now (eqb-true (length c.rest-rest.result.now) 0 (sym c.is_empty.ensures ∙ c.if-is_empty.true)) in
    whole_text (places_with c.args.depths) c.args.bytes.now c.rest-rest.result.now certificate begins none

pub line_number-line-requires : goal.line_number-line-requires
line_number-line-requires c =
    let split = ap (λ (l : Left). l.rest) (sym c.new-lines.ensures) ∙ c.in-Ok.ensures.split ∙ ap (λ z. text_of c.in-Ok.ensures.lines ++ z) (sym c.rest-rest.ensures) in
    not_longer c.args.bytes.now (text_of c.in-Ok.ensures.lines) c.rest-rest.result.now split

pub returns-else-is_empty : goal.returns-else-is_empty
returns-else-is_empty c =
    let bytes = c.args.bytes.now in
    let certificate = c.in-Ok.certificate in
    let whole = subst (λ z. BeginsWith (places_with c.args.depths) z certificate c.certificate_with.new.lines.rest) (ap (λ (l : Left). l.rest) c.new-lines.ensures) c.in-Ok.ensures in
    let begins = subst (λ z. BeginsWith (places_with c.args.depths) bytes certificate z) (sym c.rest-rest.ensures) whole in
    let some : c.rest-rest.result.now ≢ [] = λ e. eqb-false (length c.rest-rest.result.now) 0 (sym c.is_empty.ensures ∙ c.if-is_empty.false) (ap length e) in
    line_after (places_with c.args.depths) (places_plain c.measure_of_text_is_unique.ensures c.args.depths) bytes c.rest-rest.result.now certificate c.line_number-line.result begins some c.line_number-line.ensures

pub line_number-line-requires-in-Err-Bad : goal.line_number-line-requires-in-Err-Bad
line_number-line-requires-in-Err-Bad c =
    let fails = subst (λ f. IsReading (places_with c.args.depths) c.new-lines.result.rest (Err f) c.certificate_with.new.lines) c.in-Err-Bad.field-0-is c.in-Err-Bad.ensures in
    let split = ap (λ (l : Left). l.rest) (sym c.new-lines.ensures) ∙ fails.split ∙ ap (λ z. text_of fails.before ++ z) (sym c.last.ensures) in
    not_longer c.args.bytes.now (text_of fails.before) c.last.result.now split

pub returns-in-Err-Bad : goal.returns-in-Err-Bad
returns-in-Err-Bad c =
    let bytes = c.args.bytes.now in
    let here = subst (λ f. IsReading (places_with c.args.depths) c.new-lines.result.rest (Err f) c.certificate_with.new.lines) c.in-Err-Bad.field-0-is c.in-Err-Bad.ensures in
    let whole = subst (λ z. FailsAt (places_with c.args.depths) z c.certificate_with.new.lines.last) (ap (λ (l : Left). l.rest) c.new-lines.ensures) here in
    let fails = subst (λ z. FailsAt (places_with c.args.depths) bytes z) (sym c.last.ensures) whole in
    bad_line (places_with c.args.depths) (places_plain c.measure_of_text_is_unique.ensures c.args.depths) bytes c.last.result.now c.line_number-line-in-Err-Bad.result fails c.line_number-line-in-Err-Bad.ensures
