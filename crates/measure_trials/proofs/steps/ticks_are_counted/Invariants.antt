use Rattle.measure_trials.proofs.steps.ticks_are_counted.Given as goal

abbrev pub ghosts-steps_of_two_ticks : goal.ghosts-steps_of_two_ticks
ghosts-steps_of_two_ticks a = record { name = a.blank.name; parts = a.blank.parts }
