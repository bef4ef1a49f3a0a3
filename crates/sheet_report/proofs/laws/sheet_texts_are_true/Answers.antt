use Rattle.sheet_report.proofs.SheetLines.{sheets_true}
use Rattle.sheet_report.proofs.laws.sheet_texts_are_true.Goals as goal

pub returns : goal.returns
returns c = sheets_true c.scoped_certificates_have_texts.ensures.written
