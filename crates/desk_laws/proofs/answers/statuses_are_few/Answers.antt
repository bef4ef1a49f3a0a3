use Rattle.desk_laws.proofs.Commands.{command_is_lawful}
use Rattle.desk_laws.proofs.Statuses.{statuses_few}
use Rattle.desk_laws.proofs.answers.statuses_are_few.Goals as goal

pub returns : goal.returns
returns c = statuses_few (λ command. (command_is_lawful c.answers_are_fixed.ensures command).loading) (λ command. (command_is_lawful c.answers_are_fixed.ensures command).ends)
