use Rattle.desk_laws.proofs.Commands.{command_is_lawful}
use Rattle.desk_laws.proofs.Statuses.{good_files}
use Rattle.desk_laws.proofs.answers.good_files_are_answered.Goals as goal

pub returns : goal.returns
returns c = good_files (λ command. (command_is_lawful c.answers_are_fixed.ensures command).loading) (λ command. (command_is_lawful c.answers_are_fixed.ensures command).ends)
