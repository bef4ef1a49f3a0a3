use Rattle.std.proofs.Common.{◌∙◌}
use Rattle.order_certificate.specs.declared.certificate.TopicWitness.{TopicWitness}
use Rattle.line_forms.proofs.Loops.{last_is}
use Rattle.order_certificate.proofs.topics.last_witness.Goals as goal

pub returns-in-Some : goal.returns-in-Some
returns-in-Some c = c.as_bytes.ensures.bytes ∙ last_is (λ (x : TopicWitness). x.topic) c.args.witnesses.now c.in-Some.witness.now c.in-Some.ensures.value
