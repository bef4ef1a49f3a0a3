use Rattle.order_tiers.proofs.Staying.{certified_stays}
use Rattle.order_tiers.proofs.laws.certified_stays.Goals as goal

pub returns : goal.returns
returns c name desk marks later totals after a b valid is_desk known refined numbers numbers_after = certified_stays name desk marks later totals after valid is_desk known refined numbers numbers_after a b
