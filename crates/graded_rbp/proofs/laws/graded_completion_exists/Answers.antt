use Rattle.graded_rbp.proofs.Undecided.{some_completion}
use Rattle.graded_rbp.proofs.laws.graded_completion_exists.Goals as goal

pub returns : goal.returns
returns c = some_completion
