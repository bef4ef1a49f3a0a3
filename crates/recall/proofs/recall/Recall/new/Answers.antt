use Rattle.std.proofs.Common.{refl}
use Rattle.recall.specs.Laws as laws
use Rattle.recall.proofs.recall.Recall.new.Goals as goal

pub returns-clause-made : goal.returns-clause-made
returns-clause-made c = record { named = refl; numbers = laws.numbers c.args.k (c.requires.positive, c.requires.limited) }
