use Rattle.desk_laws.proofs.Answered.{texts_end}
use Rattle.desk_laws.proofs.Commands.{command_is_lawful}
use Rattle.desk_laws.proofs.answers.texts_end_their_lines.Goals as goal

pub returns : goal.returns
returns c = texts_end (command_is_lawful c.answers_are_fixed.ensures)
