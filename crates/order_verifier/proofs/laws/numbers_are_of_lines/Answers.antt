use Rattle.order_verifier.proofs.Told.{names_told, document_told}
use Rattle.order_verifier.proofs.laws.numbers_are_of_lines.Goals as goal

pub returns-clause-names : goal.returns-clause-names
returns-clause-names c = names_told

pub returns-clause-document : goal.returns-clause-document
returns-clause-document c = document_told
