use Rattle.pair_table.proofs.Deeper.{open_refines}
use Rattle.pair_table.proofs.smaller_depths.judging_open_documents_refines.Goals as goal

pub returns : goal.returns
returns c = open_refines
