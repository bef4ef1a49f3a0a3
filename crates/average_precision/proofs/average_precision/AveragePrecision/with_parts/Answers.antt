use Rattle.std.proofs.Common.{refl}
use Rattle.average_precision.specs.Laws as laws
use Rattle.average_precision.proofs.average_precision.AveragePrecision.with_parts.Goals as goal

pub returns-clause-made : goal.returns-clause-made
returns-clause-made c = record { named = refl; numbers = laws.numbers }
