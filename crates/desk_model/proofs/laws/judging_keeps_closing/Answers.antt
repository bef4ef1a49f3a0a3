use Rattle.desk_model.proofs.Judging.{judged_by_pools}
use Rattle.desk_model.proofs.laws.judging_keeps_closing.Goals as goal

pub returns : goal.returns
returns c = judged_by_pools
