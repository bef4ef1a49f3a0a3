use Rattle.order_tiers.specs.Chains.{ByTest, IsCertifiedAbove}
use Rattle.order_tiers.proofs.Tiering.{one_tier}
use Rattle.order_tiers.proofs.laws.tiers_are_one.Goals as goal

pub returns : goal.returns
returns c above runs tier other h k = one_tier (IsCertifiedAbove (ByTest above)) runs tier other h k
