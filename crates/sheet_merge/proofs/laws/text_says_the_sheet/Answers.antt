use Rattle.sheet_merge.proofs.Again.{text_read}
use Rattle.sheet_merge.proofs.laws.text_says_the_sheet.Goals as goal

pub returns : goal.returns
returns c = text_read
