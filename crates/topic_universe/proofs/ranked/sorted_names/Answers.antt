use Rattle.std.proofs.Common.{sym, subst}
use Rattle.topic_universe.specs.Order.{IsTrecOrder}
use Rattle.topic_universe.proofs.ranked.sorted_names.Goals as goal

pub returns : goal.returns
returns c = subst (IsTrecOrder c.args.rows.now) (sym c.in_ok-copied.ensures) c.in_ok-names.ensures
