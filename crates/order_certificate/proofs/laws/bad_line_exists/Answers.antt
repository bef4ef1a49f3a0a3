use Rattle.order_certificate.proofs.Decided.{certificate_or_bad}
use Rattle.order_certificate.proofs.laws.bad_line_exists.Goals as goal

pub returns : goal.returns
returns c = certificate_or_bad c.measure_of_text_is_unique.ensures
