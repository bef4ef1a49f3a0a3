use Rattle.std.proofs.Common.{true}
use Rattle.order_bundle.proofs.Either.{has_limits, has_text, is_written}
use Rattle.order_bundle.proofs.laws.scoped_certificates_have_texts.Goals as goal

pub returns-clause-within : goal.returns-clause-within
returns-clause-within c bytes a t = let h = has_limits true bytes a t in record { scope = h.0; body = h.1 }

pub returns-clause-written : goal.returns-clause-written
returns-clause-written c = is_written true

pub returns-clause-text : goal.returns-clause-text
returns-clause-text c a h = has_text true a h.scope h.body
