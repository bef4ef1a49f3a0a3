use Rattle.measure_laws.proofs.LeastDifferences.{precision_difference, recall_difference}
use Rattle.measure_laws.proofs.least_differences.least_difference_is_counted.Goals as goal

pub returns-clause-precision : goal.returns-clause-precision
returns-clause-precision c = precision_difference

pub returns-clause-recall : goal.returns-clause-recall
returns-clause-recall c = recall_difference
