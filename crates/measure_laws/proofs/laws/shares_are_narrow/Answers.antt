use Rattle.measure_laws.proofs.Persistence.{ends_near, lo_modest, hi_modest, bounds_small}
use Rattle.measure_laws.proofs.laws.shares_are_narrow.Goals as goal

pub returns-clause-width : goal.returns-clause-width
returns-clause-width c = ends_near

pub returns-clause-low : goal.returns-clause-low
returns-clause-low c = lo_modest

pub returns-clause-high : goal.returns-clause-high
returns-clause-high c = hi_modest

pub returns-clause-bounds : goal.returns-clause-bounds
returns-clause-bounds c = bounds_small
