use Rattle.std.proofs.Common.{◌≡◌, to_z, of_z, arith}
use Rattle.std.specs.Int.{w128}
use Rattle.std.proofs.lemmas.Int.{ints}
use Rattle.std.proofs.lemmas.Result.{on_ok_weaker}
use Rattle.desk_report.proofs.Joins.{three}
use Rattle.desk_report.proofs.means.push_ends.Goals as goal

pub returns : goal.returns
returns c =
    let lo : to_z w128 (of_z w128 c.args.ends.now.lo) ≡ c.args.ends.now.lo = omega (arith, ints, c.requires.0) in
    let hi : to_z w128 (of_z w128 c.args.ends.now.hi) ≡ c.args.ends.now.hi = omega (arith, ints, c.requires.1) in
    let low = rw lo at c.in_ok-push_low.ensures in
    let high = rw hi at c.push_high.ensures in
    on_ok_weaker c.push_high.result (three _ _ _ _ _ _ _ low c.in_ok-extend_from_slice.ensures.items) high
