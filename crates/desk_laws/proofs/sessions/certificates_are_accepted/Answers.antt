use Rattle.desk_laws.proofs.Checked.{all_accepted}
use Rattle.desk_laws.proofs.sessions.certificates_are_accepted.Goals as goal

pub returns : goal.returns
returns c = all_accepted c.scoped_text_and_certificate_are_one.ensures.certificate c.scoped_certificates_have_texts.ensures.text
