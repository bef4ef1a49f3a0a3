use Rattle.desk_report.proofs.Truths.{close_true}
use Rattle.desk_report.proofs.claims.close_lines_are_true.Goals as goal

pub returns : goal.returns
returns c = close_true c.scoped_certificates_have_texts.ensures.written
