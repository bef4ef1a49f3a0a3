use Rattle.desk_laws.proofs.Commands.{command_is_lawful}
use Rattle.desk_laws.proofs.Statuses.{refusal_told}
use Rattle.desk_laws.proofs.answers.refusal_is_told.Goals as goal

pub returns : goal.returns
returns c = refusal_told (λ command. (command_is_lawful c.answers_are_fixed.ensures command).loading)
