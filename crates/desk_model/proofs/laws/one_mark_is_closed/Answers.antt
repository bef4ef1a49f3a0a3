use Rattle.desk_model.proofs.Closing.{set-closed}
use Rattle.desk_model.proofs.laws.one_mark_is_closed.Goals as goal

pub returns : goal.returns
returns c = set-closed
