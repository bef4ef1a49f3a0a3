use Rattle.measure_laws.proofs.AverageBounds.{bound_lo_least, bound_hi_greatest, bound_lo_attained, bound_hi_attained, bound_lo-most, bound_hi-most}
use Rattle.measure_laws.proofs.average.bounds_are_extremes.Goals as goal

pub returns-clause-low : goal.returns-clause-low
returns-clause-low c = bound_lo_least

pub returns-clause-high : goal.returns-clause-high
returns-clause-high c = bound_hi_greatest

pub returns-clause-low_attained : goal.returns-clause-low_attained
returns-clause-low_attained c = bound_lo_attained

pub returns-clause-high_attained : goal.returns-clause-high_attained
returns-clause-high_attained c = bound_hi_attained

pub returns-clause-low_size : goal.returns-clause-low_size
returns-clause-low_size c = bound_lo-most

pub returns-clause-high_size : goal.returns-clause-high_size
returns-clause-high_size c = bound_hi-most
