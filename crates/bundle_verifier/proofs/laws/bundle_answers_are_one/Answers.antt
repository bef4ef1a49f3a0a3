use Rattle.bundle_verifier.proofs.OneAnswer.{one_answer_of_bundle}
use Rattle.bundle_verifier.proofs.laws.bundle_answers_are_one.Goals as goal

pub returns : goal.returns
returns c = one_answer_of_bundle
