use Rattle.measure_laws.proofs.ReciprocalDifferences.{reciprocal_differences}
use Rattle.measure_laws.proofs.least_differences.least_difference_is_over_each_choice.Goals as goal

pub returns : goal.returns
returns c = reciprocal_differences
