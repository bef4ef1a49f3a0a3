use Rattle.measure_trials.proofs.answers.answers_of.Given as goal

abbrev pub ghosts-cell_once : goal.ghosts-cell_once
ghosts-cell_once a = record { name = a.blank.name; parts = a.blank.parts }
