use Rattle.desk_model.proofs.Judging.{pools_say}
use Rattle.desk_model.proofs.laws.pools_are_of_the_desk.Goals as goal

pub returns : goal.returns
returns c = pools_say
