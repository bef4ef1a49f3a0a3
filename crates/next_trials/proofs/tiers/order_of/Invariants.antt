use Rattle.next_trials.proofs.tiers.order_of.Given as goal

abbrev pub ghosts-order_by : goal.ghosts-order_by
ghosts-order_by a = record { name = a.blank.name; parts = a.blank.parts }
