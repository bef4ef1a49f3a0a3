use Rattle.std.proofs.Common.{true}
use Rattle.order_bundle.proofs.Either.{one_scoped, one_text}
use Rattle.order_bundle.proofs.laws.scoped_text_and_certificate_are_one.Goals as goal

pub returns-clause-certificate : goal.returns-clause-certificate
returns-clause-certificate c = one_scoped true c.measure_of_text_is_unique.ensures

pub returns-clause-text : goal.returns-clause-text
returns-clause-text c = one_text true
