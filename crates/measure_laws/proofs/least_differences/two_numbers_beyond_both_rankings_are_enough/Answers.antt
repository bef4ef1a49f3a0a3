use Rattle.measure_laws.proofs.Stretches.{candidates_are_enough, stretches_are}
use Rattle.measure_laws.proofs.least_differences.two_numbers_beyond_both_rankings_are_enough.Goals as goal

pub returns-clause-stretches : goal.returns-clause-stretches
returns-clause-stretches c = stretches_are

pub returns-clause-candidates : goal.returns-clause-candidates
returns-clause-candidates c = candidates_are_enough
