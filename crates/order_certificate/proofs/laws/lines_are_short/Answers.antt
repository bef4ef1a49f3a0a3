use Rattle.order_certificate.proofs.Lengths.{lines_short}
use Rattle.order_certificate.proofs.laws.lines_are_short.Goals as goal

pub returns : goal.returns
returns c = lines_short
