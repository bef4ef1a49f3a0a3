use Rattle.order_certificate.proofs.Determined.{one_low_sum, one_high_sum}
use Rattle.order_certificate.proofs.laws.open_sums_are_determined.Goals as goal

pub returns-clause-low : goal.returns-clause-low
returns-clause-low c = one_low_sum

pub returns-clause-high : goal.returns-clause-high
returns-clause-high c = one_high_sum
