use Rattle.sheet_merge.proofs.Merging.{sheets_free}
use Rattle.sheet_merge.proofs.laws.order_of_sheets_is_free.Goals as goal

pub returns : goal.returns
returns c = sheets_free
