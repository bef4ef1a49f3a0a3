use Rattle.average_precision.proofs.Pairing.{both_known}
use Rattle.average_precision.proofs.pair.leasts_between.Goals as goal

pub returns-clause-least : goal.returns-clause-least
returns-clause-least c marks one two =
    c.least_of.ensures marks c.args.a.now c.args.b.now (both_known marks c.args.a.now c.args.b.now c.args.first c.args.second c.are_same.result one two c.are_same.ensures)

pub returns-clause-swapped : goal.returns-clause-swapped
returns-clause-swapped c marks one two =
    c.least_of-2.ensures marks c.args.b.now c.args.a.now (both_known marks c.args.b.now c.args.a.now c.args.second c.args.first c.are_same-2.result two one c.are_same-2.ensures)
