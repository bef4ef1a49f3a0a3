use Rattle.measure_laws.proofs.Persistence.{run_low_encloses, run_high_encloses}
use Rattle.measure_laws.proofs.laws.weights_enclose.Goals as goal

pub returns-clause-low : goal.returns-clause-low
returns-clause-low c = run_low_encloses

pub returns-clause-high : goal.returns-clause-high
returns-clause-high c = run_high_encloses
