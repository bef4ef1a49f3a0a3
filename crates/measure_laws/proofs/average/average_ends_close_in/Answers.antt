use Rattle.measure_laws.proofs.AverageBounds.{bound_lo_rises, bound_hi_falls}
use Rattle.measure_laws.proofs.AverageLeast.{least_lo_rises, most_hi_falls}
use Rattle.measure_laws.proofs.average.average_ends_close_in.Goals as goal

pub returns-clause-low : goal.returns-clause-low
returns-clause-low c = bound_lo_rises

pub returns-clause-high : goal.returns-clause-high
returns-clause-high c = bound_hi_falls

pub returns-clause-least : goal.returns-clause-least
returns-clause-least c = least_lo_rises

pub returns-clause-most : goal.returns-clause-most
returns-clause-most c = most_hi_falls
