use Rattle.std.proofs.Common.{refl}
use Rattle.average_precision.specs.Laws as laws
use Rattle.average_precision.proofs.average_precision.AveragePrecision.new.Goals as goal

pub returns : goal.returns
returns c = record { named = refl; numbers = laws.numbers }
