use Rattle.order_tiers.proofs.Lawful.{exactly_certified}
use Rattle.order_tiers.proofs.laws.certified_is_exact.Goals as goal

pub returns : goal.returns
returns c name desk marks totals valid is_desk known numbers = exactly_certified name desk marks valid is_desk known totals numbers
