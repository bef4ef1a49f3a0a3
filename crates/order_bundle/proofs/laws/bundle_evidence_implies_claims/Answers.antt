use Rattle.order_bundle.proofs.WrittenOut.{evidence_holds}
use Rattle.order_bundle.proofs.laws.bundle_evidence_implies_claims.Goals as goal

pub returns : goal.returns
returns c = evidence_holds
