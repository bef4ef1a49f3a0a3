use Rattle.desk_trials.proofs.run.run_over.Given as goal

abbrev pub ghosts-status_of : goal.ghosts-status_of
ghosts-status_of a = record { name = a.blank.name; parts = a.blank.parts }
