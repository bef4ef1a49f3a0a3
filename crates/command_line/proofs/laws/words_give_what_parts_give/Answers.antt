use Rattle.command_line.proofs.Lines as lemmas
use Rattle.command_line.proofs.laws.words_give_what_parts_give.Goals as goal

pub returns : goal.returns
returns c = lemmas.words_give_what_parts_give
