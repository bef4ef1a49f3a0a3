use Rattle.measure_core.proofs.Narrow.{ends_narrow, precision_whole}
use Rattle.measure_core.proofs.laws.ends_are_narrow.Goals as goal

pub returns-clause-width : goal.returns-clause-width
returns-clause-width c = ends_narrow

pub returns-clause-precision : goal.returns-clause-precision
returns-clause-precision c = precision_whole
