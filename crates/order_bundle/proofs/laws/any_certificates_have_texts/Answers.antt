use Rattle.std.proofs.Common.{◌∙◌, false}
use Rattle.order_bundle.specs.Places.{unscoped}
use Rattle.order_bundle.proofs.Either.{any_has_text, has_limits, is_written, unscoped_text}
use Rattle.order_bundle.proofs.laws.any_certificates_have_texts.Goals as goal

pub returns-clause-within : goal.returns-clause-within
returns-clause-within c bytes a t = (has_limits false bytes (unscoped a) t).1

pub returns-clause-written : goal.returns-clause-written
returns-clause-written c bytes a t = is_written false bytes (unscoped a) t ∙ unscoped_text a

pub returns-clause-text : goal.returns-clause-text
returns-clause-text c = any_has_text
