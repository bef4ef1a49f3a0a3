use Rattle.desk_laws.proofs.Answered.{answers_one, calls_one}
use Rattle.desk_laws.proofs.Commands.{command_is_lawful}
use Rattle.desk_laws.proofs.answers.answer_is_one.Goals as goal

pub returns-clause-answers : goal.returns-clause-answers
returns-clause-answers c = answers_one (command_is_lawful c.answers_are_fixed.ensures)

pub returns-clause-calls : goal.returns-clause-calls
returns-clause-calls c = calls_one (command_is_lawful c.answers_are_fixed.ensures)
