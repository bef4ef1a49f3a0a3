use Rattle.desk_report.proofs.Truths.{nothing_true}
use Rattle.desk_report.proofs.claims.no_text_is_true.Goals as goal

pub returns : goal.returns
returns c = nothing_true c.scoped_certificates_have_texts.ensures.written
