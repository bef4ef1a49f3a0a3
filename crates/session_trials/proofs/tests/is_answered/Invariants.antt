use Rattle.session_trials.proofs.tests.is_answered.Given as goal

abbrev pub ghosts-hears : goal.ghosts-hears
ghosts-hears a = record { name = a.blank.name; parts = a.blank.parts }
