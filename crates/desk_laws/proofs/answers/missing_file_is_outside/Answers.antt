use Rattle.desk_laws.proofs.Commands.{command_is_lawful}
use Rattle.desk_laws.proofs.Statuses.{missing_file}
use Rattle.desk_laws.proofs.answers.missing_file_is_outside.Goals as goal

pub returns : goal.returns
returns c = missing_file (λ command. (command_is_lawful c.answers_are_fixed.ensures command).loading)
