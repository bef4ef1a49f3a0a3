use Rattle.desk_words.proofs.Lines as lemmas
use Rattle.desk_words.proofs.laws.unknown_name_is_usage.Goals as goal

pub returns : goal.returns
returns c = lemmas.unknown_is_usage
