use Rattle.desk_model.proofs.PrecisionEnds.{precision_extremes, precision_bounds}
use Rattle.desk_model.proofs.laws.precision_is_counted.Goals as goal

pub returns-clause-extremes : goal.returns-clause-extremes
returns-clause-extremes c = precision_extremes

pub returns-clause-bounds : goal.returns-clause-bounds
returns-clause-bounds c = precision_bounds
