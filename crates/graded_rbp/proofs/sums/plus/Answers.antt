use Rattle.std.proofs.Common.{arith}
use Rattle.std.proofs.lemmas.Int.{ints}
use Rattle.pair_table.proofs.Adding.{totals_same}
use Rattle.graded_rbp.proofs.sums.plus.Goals as goal

pub returns : goal.returns
returns c =
    let near = c.requires.totals in
    let more = c.requires.more in
    totals_same _ _ _ _ _ _ _ _ (omega (arith, ints, near.0, more.0)) (omega (arith, ints, near.1, more.1)) (omega (arith, ints, near.2, more.2)) (omega (arith, ints, near.3, more.3))
