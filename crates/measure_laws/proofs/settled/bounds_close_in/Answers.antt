use Rattle.measure_laws.proofs.RefinedEnds.{bounds_within}
use Rattle.measure_laws.proofs.RefinedShares.{bound_falls, bound_rises}
use Rattle.measure_laws.proofs.AverageBounds.{bound_lo_rises, bound_hi_falls}
use Rattle.measure_laws.proofs.settled.bounds_close_in.Goals as goal

pub returns-clause-exact : goal.returns-clause-exact
returns-clause-exact c = bounds_within

pub returns-clause-biased : goal.returns-clause-biased
returns-clause-biased c top bottom marks later a h = (bound_rises marks later h top bottom a, bound_falls marks later h top bottom a)

pub returns-clause-average : goal.returns-clause-average
returns-clause-average c = λ marks later a refined ranking. (bound_lo_rises marks later a refined ranking, bound_hi_falls marks later a refined ranking)
