use Rattle.order_bundle.proofs.WrittenOut.{evidence_holds}
use Rattle.table_bundle.proofs.Held.{bundle_evidence}
use Rattle.table_bundle.proofs.laws.bundles_are_evidence.Goals as goal

pub returns-clause-evidence : goal.returns-clause-evidence
returns-clause-evidence c name desk marks level b is_desk known h = bundle_evidence name desk marks level is_desk known b h

pub returns-clause-claims : goal.returns-clause-claims
returns-clause-claims c name desk marks level b is_desk known h = evidence_holds b desk marks h.form.measure is_desk known (bundle_evidence name desk marks level is_desk known b h)
