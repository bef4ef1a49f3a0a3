use Rattle.pair_table.proofs.Answered.{one_answer}
use Rattle.pair_table.proofs.evidence_laws.answer_is_one.Goals as goal

pub returns : goal.returns
returns c = one_answer
