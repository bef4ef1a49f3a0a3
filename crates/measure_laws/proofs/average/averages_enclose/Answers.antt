use Rattle.std.proofs.Common.{arith}
use Rattle.measure_laws.specs.Parts.{low_average, high_average}
use Rattle.measure_laws.proofs.AverageBounds.{average_at_most, average_at_least, low_average-near, high_average-near}
use Rattle.measure_laws.proofs.average.averages_enclose.Goals as goal

pub returns-clause-low : goal.returns-clause-low
returns-clause-low c universe truth docs = average_at_most universe truth docs (low_average universe truth docs) (omega arith)

pub returns-clause-high : goal.returns-clause-high
returns-clause-high c universe truth docs = average_at_least universe truth docs (high_average universe truth docs) (omega arith)

pub returns-clause-low_near : goal.returns-clause-low_near
returns-clause-low_near c = low_average-near

pub returns-clause-high_near : goal.returns-clause-high_near
returns-clause-high_near c = high_average-near
