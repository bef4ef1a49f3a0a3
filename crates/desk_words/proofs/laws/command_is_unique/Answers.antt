use Rattle.desk_words.proofs.Commands as lemmas
use Rattle.desk_words.proofs.laws.command_is_unique.Goals as goal

pub returns : goal.returns
returns c = lemmas.command_is_unique
