use Rattle.bundle_verifier.proofs.SaidLines.{name_said, wrong_pick_said}
use Rattle.bundle_verifier.proofs.laws.numbers_are_of_bundle_lines.Goals as goal

pub returns-clause-names : goal.returns-clause-names
returns-clause-names c = name_said

pub returns-clause-picks : goal.returns-clause-picks
returns-clause-picks c = wrong_pick_said
