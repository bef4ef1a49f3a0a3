use Rattle.desk_model.proofs.Closing.{closed-by_rankings}
use Rattle.desk_model.proofs.laws.closing_is_by_rankings.Goals as goal

pub returns : goal.returns
returns c = closed-by_rankings
