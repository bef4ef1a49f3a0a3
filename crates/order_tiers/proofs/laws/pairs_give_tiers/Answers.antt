use Rattle.order_tiers.specs.Chains.{ByTest}
use Rattle.order_tiers.proofs.Tiering.{by_pairs}
use Rattle.order_tiers.proofs.laws.pairs_give_tiers.Goals as goal

pub returns : goal.returns
returns c above = by_pairs (ByTest above)
