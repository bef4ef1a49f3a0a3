use Rattle.std.proofs.Common.{refl}
use Rattle.recip_rank.specs.Laws as laws
use Rattle.recip_rank.proofs.recip_rank.RecipRank.new.Goals as goal

pub returns : goal.returns
returns c = record { named = refl; numbers = laws.numbers }
