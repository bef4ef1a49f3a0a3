use Rattle.desk_words.proofs.Lines as lemmas
use Rattle.desk_words.proofs.laws.help_is_usage.Goals as goal

pub returns : goal.returns
returns c = lemmas.help_is_usage
