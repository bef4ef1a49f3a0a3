use Rattle.desk_model.proofs.Topics.{difference_low, difference_high}
use Rattle.desk_model.proofs.laws.sums_enclose_difference.Goals as goal

pub returns-clause-low : goal.returns-clause-low
returns-clause-low c = difference_low

pub returns-clause-high : goal.returns-clause-high
returns-clause-high c = difference_high
