use Rattle.desk_files.proofs.Checking.{one_check}
use Rattle.desk_laws.proofs.Checked.{all_accepted}
use Rattle.desk_laws.proofs.Passing.{all_pass}
use Rattle.desk_laws.proofs.sessions.checks_accept.Goals as goal

pub returns : goal.returns
returns c =
    all_pass (one_check c.scoped_text_and_certificate_are_one.ensures.certificate c.scoped_first_bad_line_is_unique.ensures.unique c.scoped_first_bad_line_is_unique.ensures.none) c.scoped_certificates_have_texts.ensures.text
    (all_accepted c.scoped_text_and_certificate_are_one.ensures.certificate c.scoped_certificates_have_texts.ensures.text)
