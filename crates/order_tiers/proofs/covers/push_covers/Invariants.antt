use Rattle.order_tiers.specs.Tables.{HaveCoversBefore}
use Rattle.order_tiers.specs.Order.{compared}
use Rattle.order_tiers.specs.Rows.{AboveBy}
use Rattle.pair_table.specs.Numbers.{HasCellEnds}
use Rattle.order_tiers.proofs.covers.push_covers.Given as goal

abbrev pub invariant-loop-second : goal.invariant-loop-second
invariant-loop-second g l = HaveCoversBefore (AboveBy l.first.of.rows.now) (HasCellEnds (g.M.Measure.cell_of l.table.measure)) (compared l.first.of.desk.now l.marks l.table.totals) l.list.items l.first.run l.second
