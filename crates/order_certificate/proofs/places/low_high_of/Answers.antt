use Rattle.std.proofs.Common.{◌∷◌, ◌++◌, ◌∙◌, sym, rules}
use Rattle.std.specs.Prelude.{codes}
use Rattle.std.specs.Fmt.{signed_decimal}
use Rattle.line_forms.proofs.Cuts.{free_parts, above_free}
use Rattle.order_certificate.proofs.RowKinds.{low_high_cut}
use Rattle.line_forms.proofs.Shown.{signed_above}
use Rattle.line_forms.proofs.WordParts.{one_name}
use Rattle.order_certificate.proofs.Joins.{low_high_is}
use Rattle.order_certificate.proofs.places.low_high_of.Goals as goal

pub returns-in_default : goal.returns-in_default
returns-in_default c b fits e =
    let cut = one_name (codes "topic ") c.args.line.now c.in_ok-topic.topic c.in_ok-topic.numbers.now b.topic (signed_decimal b.low ++ 32 ∷ signed_decimal b.high) c.in_ok-topic.ensures.later.0 fits.0.0 c.in_ok-topic.ensures.ok (e ∙ low_high_cut b) in
    c.in_default.ensures.none (signed_decimal b.low) (signed_decimal b.high) cut.1

pub returns-in_default-number : goal.returns-in_default-number
returns-in_default-number c b fits e =
    let cut = one_name (codes "topic ") c.args.line.now c.in_ok-topic.topic c.in_ok-topic.numbers.now b.topic (signed_decimal b.low ++ 32 ∷ signed_decimal b.high) c.in_ok-topic.ensures.later.0 fits.0.0 c.in_ok-topic.ensures.ok (e ∙ low_high_cut b) in
    let parts = free_parts 32 c.in-Some.low.now (signed_decimal b.low) c.in-Some.high.now (signed_decimal b.high) c.in-Some.ensures.free (above_free 32 (signed_decimal b.low) (signed_above b.low)) (sym c.in-Some.ensures.some ∙ cut.1) in
    c.in_default-number.ensures.none b.low fits.1.0 parts.0

pub returns-in-Some-number-2 : goal.returns-in-Some-number-2
returns-in-Some-number-2 c =
    let line = low_high_is c.args.line.now c.in_ok-topic.topic c.in_ok-topic.numbers.now c.in-Some.low.now c.in-Some.high.now c.in-Some-number.low c.in-Some-number-2.high c.in_ok-topic.ensures.ok c.in-Some.ensures.some c.in-Some-number.ensures.some c.in-Some-number-2.ensures.some in
    search (rules, line)

pub returns-in-None : goal.returns-in-None
returns-in-None c b fits e =
    let cut = one_name (codes "topic ") c.args.line.now c.in_ok-topic.topic c.in_ok-topic.numbers.now b.topic (signed_decimal b.low ++ 32 ∷ signed_decimal b.high) c.in_ok-topic.ensures.later.0 fits.0.0 c.in_ok-topic.ensures.ok (e ∙ low_high_cut b) in
    let parts = free_parts 32 c.in-Some.low.now (signed_decimal b.low) c.in-Some.high.now (signed_decimal b.high) c.in-Some.ensures.free (above_free 32 (signed_decimal b.low) (signed_above b.low)) (sym c.in-Some.ensures.some ∙ cut.1) in
    c.in-None.ensures.none b.high fits.1.1 parts.1
