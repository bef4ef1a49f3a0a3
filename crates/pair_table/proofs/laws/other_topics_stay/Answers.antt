use Rattle.pair_table.proofs.Changing.{numbers_elsewhere}
use Rattle.pair_table.proofs.laws.other_topics_stay.Goals as goal

pub returns : goal.returns
returns g c desk marks topic row table known h = numbers_elsewhere (g.M.Measure.cell_of table.measure) (g.M.Measure.bounds_of table.measure) desk marks topic row table known h
