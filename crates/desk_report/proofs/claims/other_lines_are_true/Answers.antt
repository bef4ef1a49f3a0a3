use Rattle.desk_report.proofs.Truths.{other_true}
use Rattle.desk_report.proofs.claims.other_lines_are_true.Goals as goal

pub returns : goal.returns
returns c = other_true c.scoped_certificates_have_texts.ensures.written
