use Rattle.measure_laws.proofs.Firsts.{reciprocal_first, rprec_first}
use Rattle.measure_laws.proofs.RprecFirst.{rprec_smallest}
use Rattle.measure_laws.proofs.laws.least_case_is_first.Goals as goal

pub returns-clause-reciprocal : goal.returns-clause-reciprocal
returns-clause-reciprocal c = reciprocal_first

pub returns-clause-rprec : goal.returns-clause-rprec
returns-clause-rprec c = rprec_first

pub returns-clause-rprec_smallest : goal.returns-clause-rprec_smallest
returns-clause-rprec_smallest c = rprec_smallest
