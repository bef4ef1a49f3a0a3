use Rattle.std.proofs.Common.{true}
use Rattle.order_bundle.proofs.Either.{none_begins_scoped}
use Rattle.order_bundle.proofs.laws.no_scoped_text_begins_another.Goals as goal

pub returns : goal.returns
returns c = none_begins_scoped true c.measure_of_text_is_unique.ensures
