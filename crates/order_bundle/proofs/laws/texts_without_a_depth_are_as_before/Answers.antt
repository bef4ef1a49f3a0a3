use Rattle.order_bundle.proofs.Either.{any_in_scoped, scoped_in_any, unscoped_text}
use Rattle.order_bundle.proofs.laws.texts_without_a_depth_are_as_before.Goals as goal

pub returns-clause-text : goal.returns-clause-text
returns-clause-text c bytes a = (any_in_scoped bytes a, scoped_in_any bytes a)

pub returns-clause-written : goal.returns-clause-written
returns-clause-written c = unscoped_text
