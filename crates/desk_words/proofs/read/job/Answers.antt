use Rattle.std.proofs.Common.{sym, subst}
use Rattle.desk_words.specs.Words.{IsMeasureOf, IsLevelOf}
use Rattle.desk_words.proofs.Values.{of_none}
use Rattle.desk_words.proofs.read.job.Goals as goal

pub returns-in_err-ok_or-clause-usage : goal.returns-in_err-ok_or-clause-usage
returns-in_err-ok_or-clause-usage c e job is = of_none c.measure.result _ c.in_err-ok_or.ensures.ok_part c.measure.ensures.none job.measure (subst (λ vs. IsMeasureOf vs job.measure) (sym c.values-2.ensures) is.measure)

pub returns-in_err-ok_or-2-clause-usage : goal.returns-in_err-ok_or-2-clause-usage
returns-in_err-ok_or-2-clause-usage c e job is = of_none c.level.result _ c.in_err-ok_or-2.ensures.ok_part c.level.ensures.none job.level (subst (λ vs. IsLevelOf vs job.level) (sym c.values-3.ensures) is.level)
