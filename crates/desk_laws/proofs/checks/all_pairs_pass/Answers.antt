use Rattle.desk_files.proofs.Checking.{one_check}
use Rattle.desk_laws.proofs.Passing.{all_pairs_pass}
use Rattle.desk_laws.proofs.checks.all_pairs_pass.Goals as goal

pub returns : goal.returns
returns c =
    all_pairs_pass (one_check c.scoped_text_and_certificate_are_one.ensures.certificate c.scoped_first_bad_line_is_unique.ensures.unique c.scoped_first_bad_line_is_unique.ensures.none) c.scoped_certificates_have_texts.ensures.text
    c.all_pairs_are_accepted.ensures c.desk_is_one.ensures
