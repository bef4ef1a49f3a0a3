use Rattle.std.proofs.Common.{arith, length}
use Rattle.order_bundle.proofs.Either.{many_under}
use Rattle.order_bundle.proofs.ScopedLengths.{scoped_length}
use Rattle.order_bundle.proofs.length.bundle_length_under.Goals as goal

pub returns : goal.returns
returns c = omega (arith, c.bundle_length.ensures.count, c.depth_length.ensures.count, scoped_length (many_under c.args.depth c.args.bundle.now))
