use Rattle.desk_model.proofs.Topics.{mean_low, mean_high}
use Rattle.desk_model.proofs.laws.sums_enclose_mean.Goals as goal

pub returns-clause-low : goal.returns-clause-low
returns-clause-low c = mean_low

pub returns-clause-high : goal.returns-clause-high
returns-clause-high c = mean_high
