use Rattle.measure_laws.proofs.Weights.{unit-size, weight-most, weight-even}
use Rattle.measure_laws.proofs.laws.units_and_weights_are_modest.Goals as goal

pub returns-clause-unit : goal.returns-clause-unit
returns-clause-unit c = unit-size

pub returns-clause-weight : goal.returns-clause-weight
returns-clause-weight c = weight-most

pub returns-clause-even : goal.returns-clause-even
returns-clause-even c = weight-even
