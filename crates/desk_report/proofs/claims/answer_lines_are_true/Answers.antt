use Rattle.desk_report.proofs.Truths.{answer_true}
use Rattle.desk_report.proofs.claims.answer_lines_are_true.Goals as goal

pub returns : goal.returns
returns c = answer_true c.scoped_certificates_have_texts.ensures.written
