use Rattle.average_precision.proofs.Ends.{cell_is}
use Rattle.average_precision.proofs.pair.cell_of.Goals as goal

pub returns : goal.returns
returns c marks a b least swapped =
    cell_is marks a b c.args.both.least c.args.both.swapped c.span_of.result c.span_of-2.result c.negate.result
    least swapped c.span_of.ensures.lo c.span_of.ensures.hi c.span_of-2.ensures.lo c.span_of-2.ensures.hi c.negate.ensures.lo c.negate.ensures.hi
