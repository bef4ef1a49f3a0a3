use Rattle.sheet_report.proofs.AnyRuns.{judgements_true}
use Rattle.sheet_report.proofs.laws.judgements_claim_nothing.Goals as goal

pub returns : goal.returns
returns c = judgements_true c.qrels_texts_are_true.ensures
