use Rattle.std.proofs.Common.{refl, sym, ◌∙◌}
use Rattle.average_precision.proofs.Leasts.{least_same, least_other}
use Rattle.average_precision.proofs.least.least_of.Goals as goal

pub returns-then-same : goal.returns-then-same
returns-then-same c marks first second k = least_same marks first second _ (sym k.same_list ∙ c.if-same.true) refl refl refl

pub returns : goal.returns
returns c marks first second k =
    least_other marks first second c.args.same c.args.a.numbers c.args.b.numbers c.args.b.other.in_high c.args.a.other.in_low c.least_apart.result c.if-same.false k c.least_apart.ensures.lo c.least_apart.ensures.hi c.least_apart.ensures.case
