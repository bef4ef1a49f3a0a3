use Rattle.std.proofs.Common.{sym, ◌∙◌}
use Rattle.order_verifier.proofs.NearPlaces.{equal_is}
use Rattle.order_verifier.proofs.search.has_name.Goals as goal

pub returns-then-may_be_same : goal.returns-then-may_be_same
returns-then-may_be_same c = λ yes. c.order_of.ensures (equal_is _ (sym c.is_eq.ensures ∙ yes))
