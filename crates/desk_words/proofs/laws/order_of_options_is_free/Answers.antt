use Rattle.desk_words.proofs.Lines as lemmas
use Rattle.desk_words.proofs.laws.order_of_options_is_free.Goals as goal

pub returns : goal.returns
returns c = lemmas.order_is_free
