use Rattle.std.proofs.Common.{true}
use Rattle.order_bundle.proofs.Either.{none_bad_line, one_bad_line}
use Rattle.order_bundle.proofs.laws.scoped_first_bad_line_is_unique.Goals as goal

pub returns-clause-unique : goal.returns-clause-unique
returns-clause-unique c = one_bad_line true c.measure_of_text_is_unique.ensures

pub returns-clause-none : goal.returns-clause-none
returns-clause-none c = none_bad_line true c.measure_of_text_is_unique.ensures
