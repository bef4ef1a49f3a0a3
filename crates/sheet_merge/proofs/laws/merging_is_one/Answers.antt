use Rattle.sheet_merge.proofs.Merging.{merging_one}
use Rattle.sheet_merge.proofs.laws.merging_is_one.Goals as goal

pub returns : goal.returns
returns c = merging_one
