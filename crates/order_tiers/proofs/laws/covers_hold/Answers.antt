use Rattle.std.proofs.Common.{get_or, length}
use Rattle.desk_model.specs.Desk.{topics_under}
use Rattle.measure_core.specs.Made.{HasEnds}
use Rattle.pair_table.specs.Numbers.{HasCellEnds}
use Rattle.pair_table.specs.Sums.{all_pair_sums}
use Rattle.order_tiers.proofs.Naming.{covers_in_runs}
use Rattle.order_tiers.proofs.Said.{named_above, measured_above}
use Rattle.order_tiers.proofs.Winning.{named_enclose, cells_enclose, cover_holds}
use Rattle.order_tiers.proofs.laws.covers_hold.Goals as goal

pub returns-clause-within : goal.returns-clause-within
returns-clause-within c = covers_in_runs

pub returns-clause-holds : goal.returns-clause-holds
returns-clause-holds c name desk marks order valid is_desk known h k d lt =
    cover_holds name desk marks is_desk known h.totals (named_above name desk marks valid is_desk known h.totals h.numbers) (HasEnds name) (named_enclose name valid) (get_or order.covers k d) (h.is.covers.each k d lt)

pub returns-clause-measured : goal.returns-clause-measured
returns-clause-measured c name cell bounds desk marks order valid laws is_desk known h k d lt =
    cover_holds name desk marks is_desk known (all_pair_sums cell (topics_under desk marks) (length desk.runs)) (measured_above name desk marks valid is_desk known cell bounds laws) (HasCellEnds cell) (cells_enclose name cell bounds laws)
    (get_or order.covers k d) (h.covers.each k d lt)
