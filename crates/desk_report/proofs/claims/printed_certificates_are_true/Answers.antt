use Rattle.desk_report.proofs.Truths.{certificates_true}
use Rattle.desk_report.proofs.claims.printed_certificates_are_true.Goals as goal

pub returns : goal.returns
returns c = certificates_true c.scoped_certificates_have_texts.ensures.text c.any_evidence_implies_claims.ensures c.no_scoped_text_begins_another.ensures
