use Rattle.pair_table.proofs.Deeper.{refines}
use Rattle.pair_table.proofs.smaller_depths.depth_refines.Goals as goal

pub returns : goal.returns
returns c = refines
