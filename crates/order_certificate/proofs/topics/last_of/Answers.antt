use Rattle.std.proofs.Common.{◌∙◌}
use Rattle.line_forms.proofs.Loops.{last_is}
use Rattle.order_certificate.proofs.topics.last_of.Goals as goal

pub returns-in-Some : goal.returns-in-Some
returns-in-Some c = c.as_bytes.ensures.bytes ∙ last_is (λ name. name) c.args.names.now c.in-Some.name.now c.in-Some.ensures.value
