use Rattle.std.proofs.Common.{arith}
use Rattle.order_certificate.proofs.TextLengths.{text_most}
use Rattle.order_certificate.proofs.laws.texts_are_short.Goals as goal

pub returns-clause-documents : goal.returns-clause-documents
returns-clause-documents c = text_most

pub returns-clause-file : goal.returns-clause-file
returns-clause-file c d is few = omega (arith, text_most d is, few)
