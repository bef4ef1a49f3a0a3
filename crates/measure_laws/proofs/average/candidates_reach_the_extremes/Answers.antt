use Rattle.std.proofs.Common.{arith, length}
use Rattle.desk_model.proofs.Completions.{with_picked-Completes}
use Rattle.measure_laws.specs.Candidates.{open_docs}
use Rattle.measure_laws.proofs.AverageBounds.{taken_in, low_taken, score_below_high, low_below_score, taken_in-few, low_taken-few}
use Rattle.measure_laws.proofs.average.candidates_reach_the_extremes.Goals as goal

pub returns-clause-low : goal.returns-clause-low
returns-clause-low c marks docs truth r k = (low_taken marks truth docs, low_taken-few marks truth docs, low_below_score marks docs truth r k)

pub returns-clause-high : goal.returns-clause-high
returns-clause-high c marks docs truth r k = (taken_in marks truth docs, taken_in-few marks truth docs, score_below_high marks docs truth r k)

pub returns-clause-completes_low : goal.returns-clause-completes_low
returns-clause-completes_low c marks docs t = with_picked-Completes marks _

pub returns-clause-completes_high : goal.returns-clause-completes_high
returns-clause-completes_high c marks docs t = with_picked-Completes marks _
