use Rattle.std.proofs.Common.{ap, ◌∙◌}
use Rattle.order_tiers.proofs.Tabled.{table_for}
use Rattle.order_tiers.proofs.order.Order.of_table.Goals as goal

pub order_of-requires : goal.order_of-requires
order_of-requires g c =
    let M = g.M.Measure in
    let table = c.args.table.now in
    table_for (M.measured table.measure) (M.cell_of table.measure) (M.bounds_of table.measure) c.args.desk.now c.args.marks.now.rows c.rows.result.now table c.name-name.result c.valid.ensures c.rows.ensures c.requires.marks c.requires.table
    (c.name-name.ensures.name ∙ ap M.measured c.measure.ensures) c.name-name.ensures.built
