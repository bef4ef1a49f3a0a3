use Rattle.std.specs.Prelude.{codes}
use Rattle.std.specs.Fmt.{signed_decimal}
use Rattle.line_forms.proofs.WordParts.{one_name}
use Rattle.order_certificate.proofs.places.low_of.Goals as goal

pub returns-in-None : goal.returns-in-None
returns-in-None c b fits e =
    let cut = one_name (codes "topic ") c.args.line.now c.in_ok-topic.topic c.in_ok-topic.low.now b.topic (signed_decimal b.low) c.in_ok-topic.ensures.later.0 fits.0.0 c.in_ok-topic.ensures.ok e in
    c.in-None.ensures.none b.low fits.1.0 cut.1
