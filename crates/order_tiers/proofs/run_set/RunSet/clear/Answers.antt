use Rattle.std.proofs.Common.{sym, ◌∙◌, ap, length}
use Rattle.order_tiers.proofs.Bits.{length-row_of, has_none}
use Rattle.order_tiers.proofs.run_set.RunSet.clear.Goals as goal

pub returns-clause-count : goal.returns-clause-count
returns-clause-count c = length-row_of _ _ ∙ sym (length-row_of c.self.inside.runs c.self.inside.words) ∙ ap length c.self.view_is

pub returns-clause-none : goal.returns-clause-none
returns-clause-none c = has_none _
