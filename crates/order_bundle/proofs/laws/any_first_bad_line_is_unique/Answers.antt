use Rattle.std.proofs.Common.{false}
use Rattle.order_bundle.specs.Places.{unscoped}
use Rattle.order_bundle.proofs.Either.{none_bad_line, one_bad_line}
use Rattle.order_bundle.proofs.laws.any_first_bad_line_is_unique.Goals as goal

pub returns-clause-unique : goal.returns-clause-unique
returns-clause-unique c = one_bad_line false c.measure_of_text_is_unique.ensures

pub returns-clause-none : goal.returns-clause-none
returns-clause-none c bytes a = none_bad_line false c.measure_of_text_is_unique.ensures bytes (unscoped a)
