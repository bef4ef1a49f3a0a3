use Rattle.order_certificate.proofs.Whole.{begins_with_claim}
use Rattle.order_certificate.proofs.laws.claim_is_on_line_6.Goals as goal

pub returns : goal.returns
returns c = begins_with_claim c.measure_of_text_is_unique.ensures
