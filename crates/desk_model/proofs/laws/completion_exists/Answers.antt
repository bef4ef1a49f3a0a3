use Rattle.desk_model.proofs.Completions.{some_completion}
use Rattle.desk_model.proofs.laws.completion_exists.Goals as goal

pub returns : goal.returns
returns c = some_completion
