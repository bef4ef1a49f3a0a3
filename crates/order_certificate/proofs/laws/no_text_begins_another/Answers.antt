use Rattle.order_certificate.proofs.Whole.{none_begins_another}
use Rattle.order_certificate.proofs.laws.no_text_begins_another.Goals as goal

pub returns : goal.returns
returns c = none_begins_another c.measure_of_text_is_unique.ensures
