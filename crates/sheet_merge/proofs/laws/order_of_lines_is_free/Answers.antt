use Rattle.sheet_merge.proofs.Merging.{lines_free}
use Rattle.sheet_merge.proofs.laws.order_of_lines_is_free.Goals as goal

pub returns : goal.returns
returns c = lines_free
