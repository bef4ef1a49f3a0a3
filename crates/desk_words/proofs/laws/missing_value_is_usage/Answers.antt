use Rattle.desk_words.proofs.Lines as lemmas
use Rattle.desk_words.proofs.laws.missing_value_is_usage.Goals as goal

pub returns : goal.returns
returns c = lemmas.missing_is_usage
