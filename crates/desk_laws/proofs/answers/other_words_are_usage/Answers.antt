use Rattle.desk_laws.proofs.Statuses.{other_words}
use Rattle.desk_laws.proofs.answers.other_words_are_usage.Goals as goal

pub returns : goal.returns
returns c = other_words
