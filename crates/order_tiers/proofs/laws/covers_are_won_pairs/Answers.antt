use Rattle.std.proofs.Common.{get_or}
use Rattle.order_tiers.proofs.Lawful.{cover_won}
use Rattle.order_tiers.proofs.laws.covers_are_won_pairs.Goals as goal

pub returns : goal.returns
returns c name desk marks totals order valid is_desk known numbers h k d lt = cover_won name desk marks valid is_desk known totals numbers (get_or order.covers k d) (h.covers.each k d lt)
