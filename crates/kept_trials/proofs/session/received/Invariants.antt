use Rattle.kept_trials.proofs.session.received.Given as goal

abbrev pub ghosts-status_of : goal.ghosts-status_of
ghosts-status_of g a = record { name = a.blank.name; parts = a.blank.parts }
