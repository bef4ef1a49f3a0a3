use Rattle.small_lemmas.proofs.Numbers.{neg_twice}
use Rattle.small_lemmas.proofs.laws.negating_twice_changes_nothing.Goals as goal

pub returns : goal.returns
returns c = neg_twice
