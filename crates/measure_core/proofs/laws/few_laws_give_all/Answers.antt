use Rattle.measure_core.proofs.Swapped.{meets_laws}
use Rattle.measure_core.proofs.laws.few_laws_give_all.Goals as goal

pub returns : goal.returns
returns c = meets_laws
