use Rattle.rprec.proofs.pair.RunPair.least_case.Goals as goal

pub returns : goal.returns
returns c = record { count = c.least.ensures.chosen; wanted = c.wanted_at.ensures }
