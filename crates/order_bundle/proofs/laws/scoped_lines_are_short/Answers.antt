use Rattle.std.proofs.Common.{true}
use Rattle.order_bundle.proofs.Decided.{lines_short}
use Rattle.order_bundle.proofs.laws.scoped_lines_are_short.Goals as goal

pub returns : goal.returns
returns c = lines_short true
