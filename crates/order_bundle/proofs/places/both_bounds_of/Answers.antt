use Rattle.std.proofs.Common.{◌∷◌, ◌++◌, ◌∙◌, sym}
use Rattle.std.specs.Prelude.{codes}
use Rattle.std.specs.Fmt.{signed_decimal}
use Rattle.line_forms.proofs.Cuts.{free_parts, above_free}
use Rattle.line_forms.proofs.Shown.{signed_above}
use Rattle.line_forms.proofs.WordParts.{after_word}
use Rattle.order_bundle.proofs.places.both_bounds_of.Goals as goal

pub returns-in_default-cut : goal.returns-in_default-cut
returns-in_default-cut c b fits e =
    c.in_default-cut.ensures.none (signed_decimal b.low) (signed_decimal b.high) (after_word (codes "bound ") c.args.line.now c.in-Some.text.now (signed_decimal b.low ++ 32 ∷ signed_decimal b.high) c.in-Some.ensures.some e)

pub returns-in_default-number : goal.returns-in_default-number
returns-in_default-number c b fits e =
    let text = after_word (codes "bound ") c.args.line.now c.in-Some.text.now (signed_decimal b.low ++ 32 ∷ signed_decimal b.high) c.in-Some.ensures.some e in
    let parts = free_parts 32 c.in-Some-cut.low.now (signed_decimal b.low) c.in-Some-cut.high.now (signed_decimal b.high) c.in-Some-cut.ensures.free (above_free 32 (signed_decimal b.low) (signed_above b.low)) (sym c.in-Some-cut.ensures.some ∙ text) in
    c.in_default-number.ensures.none b.low fits.0 parts.0

pub returns-in-None : goal.returns-in-None
returns-in-None c b fits e =
    let text = after_word (codes "bound ") c.args.line.now c.in-Some.text.now (signed_decimal b.low ++ 32 ∷ signed_decimal b.high) c.in-Some.ensures.some e in
    let parts = free_parts 32 c.in-Some-cut.low.now (signed_decimal b.low) c.in-Some-cut.high.now (signed_decimal b.high) c.in-Some-cut.ensures.free (above_free 32 (signed_decimal b.low) (signed_above b.low)) (sym c.in-Some-cut.ensures.some ∙ text) in
    c.in-None.ensures.none b.high fits.1 parts.1
