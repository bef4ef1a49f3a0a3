use Rattle.order_tiers.proofs.Bits.{length-row_of, has_none}
use Rattle.order_tiers.proofs.run_set.RunSet.new.Goals as goal

pub returns-clause-count : goal.returns-clause-count
returns-clause-count c = length-row_of _ _

pub returns-clause-none : goal.returns-clause-none
returns-clause-none c = has_none _
