use Rattle.std.proofs.Common.{refl}
use Rattle.rprec.specs.Laws as laws
use Rattle.rprec.proofs.rprec.Rprec.new.Goals as goal

pub returns : goal.returns
returns c = record { named = refl; numbers = laws.numbers }
