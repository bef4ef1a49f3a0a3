use Rattle.std.proofs.Common.{◌≡◌, ◌<◌, ◌-ℤ◌, ◌+◌, pos, to_z, of_z, w64, arith}
use Rattle.std.proofs.lemmas.Int.{ints}
use Rattle.precision.proofs.Ends.{cell_is, extremes_read}
use Rattle.precision.proofs.own.cell_between.Goals as goal

pub returns : goal.returns
returns c = λ k marks a b valid met one two.
    let first = c.args.own.first in
    let second = c.args.own.second in
    let low : to_z w64 (of_z w64 (to_z w64 (of_z w64 c.least.result) -ℤ to_z w64 (of_z w64 c.most.result))) ≡ pos first.relevant -ℤ pos (second.relevant + second.unjudged) = omega (arith, ints) in
    let high : to_z w64 (of_z w64 (to_z w64 (of_z w64 c.most-2.result) -ℤ to_z w64 (of_z w64 c.least-2.result))) ≡ pos (first.relevant + first.unjudged) -ℤ pos second.relevant = omega (arith, ints) in
    let positive : 0 < k = omega (arith, valid) in
    cell_is k marks a b _ _ c.point.result c.point-2.result valid met
    (extremes_read k marks a b _ _ first.relevant (first.relevant + first.unjudged) second.relevant (second.relevant + second.unjudged) positive met.first met.second low high one.least one.most two.least two.most)
    c.point.ensures.lo c.point.ensures.hi c.point-2.ensures.lo c.point-2.ensures.hi
