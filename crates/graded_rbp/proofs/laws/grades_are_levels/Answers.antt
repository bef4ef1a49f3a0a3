use Rattle.graded_rbp.proofs.LevelScores.{levels_reached, score_is_mean}
use Rattle.graded_rbp.proofs.laws.grades_are_levels.Goals as goal

pub returns-clause-gain : goal.returns-clause-gain
returns-clause-gain c = levels_reached

pub returns-clause-score : goal.returns-clause-score
returns-clause-score c m run topic completion valid completes ranked = score_is_mean m valid run topic completion completes ranked
