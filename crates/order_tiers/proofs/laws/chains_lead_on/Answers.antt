use Rattle.order_tiers.specs.Chains.{ByTest}
use Rattle.order_tiers.proofs.Chaining.{direct, leads_on, least}
use Rattle.order_tiers.proofs.laws.chains_lead_on.Goals as goal

pub returns-clause-pairs : goal.returns-clause-pairs
returns-clause-pairs c above = direct (ByTest above)

pub returns-clause-leads : goal.returns-clause-leads
returns-clause-leads c above = leads_on (ByTest above)

pub returns-clause-least : goal.returns-clause-least
returns-clause-least c above other = least (ByTest above) (ByTest other)
