use Rattle.desk_words.proofs.Lines as lemmas
use Rattle.desk_words.proofs.laws.parts_say_the_command.Goals as goal

pub returns : goal.returns
returns c = lemmas.parts_say_the_command
