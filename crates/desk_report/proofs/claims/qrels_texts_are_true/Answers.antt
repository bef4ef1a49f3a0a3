use Rattle.desk_report.proofs.Truths.{qrels_true}
use Rattle.desk_report.proofs.claims.qrels_texts_are_true.Goals as goal

pub returns : goal.returns
returns c = qrels_true c.scoped_certificates_have_texts.ensures.written
