use Rattle.pair_table.proofs.Answered.{named_answer}
use Rattle.pair_table.proofs.evidence_laws.answers_are_of_names.Goals as goal

pub returns : goal.returns
returns c = named_answer
