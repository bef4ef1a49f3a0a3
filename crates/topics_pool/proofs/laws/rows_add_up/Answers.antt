use Rattle.topics_pool.proofs.AddedUp.{added_up}
use Rattle.topics_pool.proofs.laws.rows_add_up.Goals as goal

pub returns : goal.returns
returns c = added_up
