use Rattle.std.proofs.Common.{refl}
use Rattle.recip_rank.specs.Laws as laws
use Rattle.recip_rank.proofs.recip_rank.RecipRank.with_worths.Goals as goal

pub returns-clause-made : goal.returns-clause-made
returns-clause-made c = record { named = refl; numbers = laws.numbers }
