use Rattle.desk_laws.proofs.Checked.{all_pairs_accepted}
use Rattle.desk_laws.proofs.checks.all_pairs_are_accepted.Goals as goal

pub returns : goal.returns
returns c = all_pairs_accepted c.scoped_text_and_certificate_are_one.ensures.certificate c.scoped_certificates_have_texts.ensures.text c.bundles_are_evidence.ensures.evidence
