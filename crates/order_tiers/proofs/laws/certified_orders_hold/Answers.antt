use Rattle.desk_model.specs.Desk.{topics_under}
use Rattle.order_tiers.proofs.Always.{certified_above, never_certified}
use Rattle.order_tiers.proofs.Said.{named_above, measured_above}
use Rattle.order_tiers.proofs.laws.certified_orders_hold.Goals as goal

pub returns-clause-named : goal.returns-clause-named
returns-clause-named c name desk marks totals valid is_desk known numbers = certified_above name (topics_under desk marks) _ (named_above name desk marks valid is_desk known totals numbers)

pub returns-clause-measured : goal.returns-clause-measured
returns-clause-measured c name cell bounds desk marks valid laws is_desk known = certified_above name (topics_under desk marks) _ (measured_above name desk marks valid is_desk known cell bounds laws)

pub returns-clause-never_named : goal.returns-clause-never_named
returns-clause-never_named c name desk marks totals valid is_desk known numbers = never_certified name (topics_under desk marks) _ (named_above name desk marks valid is_desk known totals numbers)

pub returns-clause-never_measured : goal.returns-clause-never_measured
returns-clause-never_measured c name cell bounds desk marks valid laws is_desk known = never_certified name (topics_under desk marks) _ (measured_above name desk marks valid is_desk known cell bounds laws)
