use Rattle.order_verifier.proofs.Answers.{rejected_no_evidence}
use Rattle.order_verifier.proofs.laws.rejected_certificates_are_no_evidence.Goals as goal

pub returns : goal.returns
returns c = rejected_no_evidence
