use Rattle.desk_laws.proofs.Staying.{words_stay, swapped_words}
use Rattle.desk_laws.proofs.sessions.settled_words_stay.Goals as goal

pub returns-clause-same : goal.returns-clause-same
returns-clause-same c = words_stay

pub returns-clause-swapped : goal.returns-clause-swapped
returns-clause-swapped c = swapped_words
