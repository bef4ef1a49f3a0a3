use Rattle.desk_words.proofs.Lines as lemmas
use Rattle.desk_words.proofs.laws.flag_with_value_is_usage.Goals as goal

pub returns : goal.returns
returns c = lemmas.flag_with_value_is_usage
