use Rattle.std.proofs.Common.{arith}
use Rattle.std.proofs.lemmas.Int.{ints}
use Rattle.pair_table.proofs.Adding.{totals_same}
use Rattle.pair_table.proofs.two_runs.swapped_sums.Goals as goal

pub returns : goal.returns
returns c = totals_same _ _ _ _ _ _ _ _ (omega (arith, ints, c.requires.3)) (omega (arith, ints, c.requires.2)) (omega (arith, ints, c.requires.1)) (omega (arith, ints, c.requires.0))
