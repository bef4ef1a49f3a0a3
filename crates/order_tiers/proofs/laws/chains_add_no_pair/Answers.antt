use Rattle.order_tiers.proofs.Lawful.{no_pair_added}
use Rattle.order_tiers.proofs.laws.chains_add_no_pair.Goals as goal

pub returns : goal.returns
returns c name desk marks totals valid is_desk known numbers = no_pair_added name desk marks valid is_desk known totals numbers
