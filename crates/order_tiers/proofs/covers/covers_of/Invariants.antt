use Rattle.std.proofs.Common.{◌≡◌, length}
use Rattle.order_tiers.specs.Tables.{HaveCoversBefore}
use Rattle.order_tiers.specs.Order.{compared}
use Rattle.order_tiers.specs.Rows.{AboveBy}
use Rattle.pair_table.specs.Numbers.{HasCellEnds}
use Rattle.order_tiers.proofs.covers.covers_of.Given as goal

abbrev pub invariant-loop-run : goal.invariant-loop-run
invariant-loop-run g l = record {
  before : HaveCoversBefore (AboveBy l.of.rows.now) (HasCellEnds (g.M.Measure.cell_of l.table.measure)) (compared l.of.desk.now l.marks l.table.totals) l.list.items l.run 0;
  room : length l.between ≡ length l.of.rows.now;
}
