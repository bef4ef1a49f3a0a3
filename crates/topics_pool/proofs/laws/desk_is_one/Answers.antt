use Rattle.topics_pool.proofs.OneDesk.{one_desk}
use Rattle.topics_pool.proofs.laws.desk_is_one.Goals as goal

pub returns : goal.returns
returns c = one_desk
