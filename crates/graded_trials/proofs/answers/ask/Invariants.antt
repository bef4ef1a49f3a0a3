use Rattle.graded_trials.proofs.answers.ask.Given as goal

abbrev pub ghosts-ask_once : goal.ghosts-ask_once
ghosts-ask_once g a = record { name = a.blank.name; parts = a.blank.parts }
