use Rattle.bundle_verifier.proofs.Refused.{reason_refused}
use Rattle.bundle_verifier.proofs.laws.rejected_bundles_are_no_evidence.Goals as goal

pub returns : goal.returns
returns c = reason_refused
