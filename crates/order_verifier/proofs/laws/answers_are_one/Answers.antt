use Rattle.order_verifier.proofs.Answers.{one_answer}
use Rattle.order_verifier.proofs.laws.answers_are_one.Goals as goal

pub returns : goal.returns
returns c = one_answer
