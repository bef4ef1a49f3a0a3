use Rattle.measure_laws.proofs.Biased.{low_power-le, high_power-le}
use Rattle.measure_laws.proofs.Persistence.{rank_low, rank_high}
use Rattle.measure_laws.proofs.laws.powers_enclose.Goals as goal

pub returns-clause-low : goal.returns-clause-low
returns-clause-low c = low_power-le

pub returns-clause-high : goal.returns-clause-high
returns-clause-high c = high_power-le

pub returns-clause-weight_low : goal.returns-clause-weight_low
returns-clause-weight_low c = rank_low

pub returns-clause-weight_high : goal.returns-clause-weight_high
returns-clause-weight_high c = rank_high
