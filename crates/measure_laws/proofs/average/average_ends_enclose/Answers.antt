use Rattle.std.proofs.Common.{length}
use Rattle.measure_laws.specs.AverageEnds.{average_truth}
use Rattle.measure_laws.proofs.AverageLeast.{low_encloses, upper_holds, truth-Completes, least_lo-modest, upper_end-modest, ends_swapped}
use Rattle.measure_laws.proofs.average.average_ends_enclose.Goals as goal

pub returns-clause-low : goal.returns-clause-low
returns-clause-low c = low_encloses

pub returns-clause-upper : goal.returns-clause-upper
returns-clause-upper c = upper_holds

pub returns-clause-case : goal.returns-clause-case
returns-clause-case c = truth-Completes

pub returns-clause-low_size : goal.returns-clause-low_size
returns-clause-low_size c = least_lo-modest

pub returns-clause-high_size : goal.returns-clause-high_size
returns-clause-high_size c marks a b ra rb = upper_end-modest (length marks) (average_truth marks a b) a b ra rb

pub returns-clause-mirror : goal.returns-clause-mirror
returns-clause-mirror c = ends_swapped
