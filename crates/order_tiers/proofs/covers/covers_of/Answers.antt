use Rattle.std.proofs.Common.{List, length, sym, subst, arith}
use Rattle.pair_table.specs.Numbers.{HasCellEnds}
use Rattle.order_tiers.specs.Order.{compared}
use Rattle.order_tiers.specs.Rows.{AboveBy, IsSquare}
use Rattle.order_tiers.specs.Tables.{HaveCoversBefore}
use Rattle.order_tiers.specs.declared.cover.Cover.{Cover}
use Rattle.order_tiers.proofs.Covering.{covers_none, covers_all}
use Rattle.order_tiers.proofs.Writing.{in_row}
use Rattle.order_tiers.proofs.covers.covers_of.Goals as goal

pub loop-run-init : goal.loop-run-init
loop-run-init g c =
    let cell = g.M.Measure.cell_of c.args.table.now.measure in
    record {
      before = subst (λ (l : List Cover). HaveCoversBefore (AboveBy c.args.of.now.rows.now) (HasCellEnds cell) (compared c.args.of.now.desk.now c.args.marks.now c.args.table.now.totals) l 0 0) (sym c.new-list.ensures.items)
          (covers_none (AboveBy c.args.of.now.rows.now) (HasCellEnds cell) (compared c.args.of.now.desk.now c.args.marks.now c.args.table.now.totals));
      room = c.new-between.ensures.count;
    }

pub loop-run-preserved : goal.loop-run-preserved
loop-run-preserved g c = record { before = c.in_ok-push_covers.ensures; room = c.find_between.ensures.long }

pub returns : goal.returns
returns g c =
    let cell = g.M.Measure.cell_of c.args.table.now.measure in
    let desk = c.args.of.now.desk.now in
    let rows = c.args.of.now.rows.now in
    let within = in_row (length desk.runs) rows (subst (λ n. IsSquare n rows) c.args.of.now.count c.args.of.now.strict.square) in
    covers_all (AboveBy rows) (HasCellEnds cell) (compared desk c.args.marks.now c.args.table.now.totals) c.loop-run.list.items c.loop-run.run 0 c.loop-run.invariant.before within
    (omega (arith, c.loop-run-test.false, c.run_count-run-end.ensures.count))
