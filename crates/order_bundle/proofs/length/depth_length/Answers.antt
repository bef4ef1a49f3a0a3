use Rattle.std.proofs.Common.{[], length, arith, length-append}
use Rattle.std.specs.Prelude.{codes, decimal}
use Rattle.order_bundle.specs.Depths.{depth_line}
use Rattle.order_bundle.proofs.Counting.{one_more_line}
use Rattle.order_bundle.proofs.length.depth_length.Goals as goal

pub returns-in-Some-clause-count : goal.returns-in-Some-clause-count
returns-in-Some-clause-count c =
    let d = c.in-Some.depth in
    let digits = rw c.from.ensures at c.digits.ensures.count in
    rw c.in-Some.is (omega (arith, digits, one_more_line (depth_line d) [], length-append (codes "depth ") (decimal d)))
