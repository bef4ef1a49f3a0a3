use Rattle.sheet_merge.proofs.Maps.{map_is_one}
use Rattle.sheet_merge.proofs.laws.map_is_one.Goals as goal

pub returns : goal.returns
returns c = map_is_one
