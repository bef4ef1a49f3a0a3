use Rattle.measure_laws.proofs.LeastDifferences.{rprec_differences}
use Rattle.measure_laws.proofs.least_differences.least_difference_is_over_each_r.Goals as goal

pub returns : goal.returns
returns c = rprec_differences
