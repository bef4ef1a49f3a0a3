use Rattle.std.proofs.Common.{ap, arith}
use Rattle.std.proofs.lemmas.Int.{ints}
use Rattle.measure_core.specs.declared.cell.Cell.{Cell}
use Rattle.pair_table.proofs.Adding.{totals_same}
use Rattle.pair_table.proofs.sums.minus.Goals as goal

pub returns : goal.returns
returns c =
    let near = c.requires in
    let least = c.cell-cell.ensures.least in
    let most = c.cell-cell.ensures.most in
    let same = c.cell-cell.ensures.cell in
    totals_same _ _ _ _ _ _ _ _ (omega (arith, ints, near.0, least, ap (λ (x : Cell). x.least.lo) same)) (omega (arith, ints, near.1, least, ap (λ (x : Cell). x.least.hi) same))
    (omega (arith, ints, near.2, most, ap (λ (x : Cell). x.most.lo) same)) (omega (arith, ints, near.3, most, ap (λ (x : Cell). x.most.hi) same))
