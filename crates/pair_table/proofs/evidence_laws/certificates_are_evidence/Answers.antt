use Rattle.order_certificate.proofs.Holds.{evidence_claims}
use Rattle.desk_model.specs.MeasureText.{IsMeasure}
use Rattle.std.proofs.Common.{sym, subst}
use Rattle.pair_table.proofs.Evident.{answered_evidence, certificate_measure}
use Rattle.pair_table.proofs.evidence_laws.certificates_are_evidence.Goals as goal

pub returns-clause-evidence : goal.returns-clause-evidence
returns-clause-evidence c = answered_evidence

pub returns-clause-claim : goal.returns-clause-claim
returns-clause-claim c = λ name desk marks level a b x valid is_desk known apart in_a in_b h.
    evidence_claims x desk marks (subst IsMeasure (sym (certificate_measure name desk marks level a b x valid is_desk known h)) valid) is_desk known (answered_evidence name desk marks level a b x valid is_desk known apart in_a in_b h)
