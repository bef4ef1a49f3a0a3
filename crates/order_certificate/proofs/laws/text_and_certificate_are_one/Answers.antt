use Rattle.order_certificate.proofs.Whole.{one_certificate, one_text}
use Rattle.order_certificate.proofs.laws.text_and_certificate_are_one.Goals as goal

pub returns-clause-certificate : goal.returns-clause-certificate
returns-clause-certificate c = one_certificate c.measure_of_text_is_unique.ensures

pub returns-clause-text : goal.returns-clause-text
returns-clause-text c = one_text
