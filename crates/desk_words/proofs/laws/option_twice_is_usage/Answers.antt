use Rattle.desk_words.proofs.Lines as lemmas
use Rattle.desk_words.proofs.laws.option_twice_is_usage.Goals as goal

pub returns : goal.returns
returns c = lemmas.twice_is_usage
