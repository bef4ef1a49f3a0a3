use Rattle.desk_report.proofs.Truths.{next_true}
use Rattle.desk_report.proofs.claims.next_lines_are_true.Goals as goal

pub returns : goal.returns
returns c = next_true c.scoped_certificates_have_texts.ensures.written
