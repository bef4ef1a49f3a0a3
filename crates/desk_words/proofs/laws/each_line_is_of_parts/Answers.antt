use Rattle.desk_words.proofs.Lines as lemmas
use Rattle.desk_words.proofs.laws.each_line_is_of_parts.Goals as goal

pub returns : goal.returns
returns c = lemmas.each_line_is_of_parts
