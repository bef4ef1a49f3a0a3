use Rattle.order_bundle.proofs.WrittenOut.{written_within}
use Rattle.order_bundle.proofs.laws.claims_are_certificates_written_out.Goals as goal

pub returns : goal.returns
returns c = written_within
