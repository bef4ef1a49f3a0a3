use Rattle.std.proofs.Common.{◌∙◌}
use Rattle.order_certificate.specs.declared.certificate.TopicBound.{TopicBound}
use Rattle.line_forms.proofs.Loops.{last_is}
use Rattle.order_certificate.proofs.topics.last_bound.Goals as goal

pub returns-in-Some : goal.returns-in-Some
returns-in-Some c = c.as_bytes.ensures.bytes ∙ last_is (λ (x : TopicBound). x.topic) c.args.bounds.now c.in-Some.bound.now c.in-Some.ensures.value
