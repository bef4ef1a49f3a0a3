use Rattle.std.proofs.Common.{ap, sym, ◌∙◌}
use Rattle.pair_table.specs.Kept.{table_sums}
use Rattle.desk_report.proofs.Tiered.{tiers_is}
use Rattle.desk_report.proofs.tiers.tiers_report.Goals as goal

pub tiers_text-requires : goal.tiers_text-requires
tiers_text-requires g c = c.in_ok-order.ensures.count

pub returns : goal.returns
returns g c = λ s at under marked of.
    let table = c.args.table.now in
    let M = g.M.Measure in
    tiers_is (M.measured table.measure) (M.cell_of table.measure) (M.bounds_of table.measure) c.args.desk.now c.valid.ensures (table_sums table) s of c.level.result c.depth.result c.name-name.result c.args.marks.now.rows c.in_ok-order.order c.in_ok-text.text.items
    (at ∙ sym c.level.ensures.value) (under ∙ sym c.depth.ensures.value) marked (c.name-name.ensures.name ∙ ap M.measured c.measure.ensures) c.in_ok-order.ensures c.in_ok-text.ensures
