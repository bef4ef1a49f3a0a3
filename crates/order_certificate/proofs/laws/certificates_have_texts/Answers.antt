use Rattle.order_certificate.proofs.Whole.{has_limits, is_written, has_text}
use Rattle.order_certificate.proofs.laws.certificates_have_texts.Goals as goal

pub returns-clause-within : goal.returns-clause-within
returns-clause-within c = has_limits

pub returns-clause-written : goal.returns-clause-written
returns-clause-written c = is_written

pub returns-clause-text : goal.returns-clause-text
returns-clause-text c = has_text
