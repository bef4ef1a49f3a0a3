use Rattle.std.proofs.Common.{sym, ◌∙◌}
use Rattle.pair_table.specs.Kept.{table_sums}
use Rattle.desk_report.proofs.Reporting.{close_is, certificate_is}
use Rattle.desk_report.proofs.reports.certified_report.Goals as goal

pub returns-in_ok-text-in-Ok : goal.returns-in_ok-text-in-Ok
returns-in_ok-text-in-Ok g c = λ s at under marked of.
    let table = c.args.table.now in
    let M = g.M.Measure in
    certificate_is (M.measured table.measure) (M.cell_of table.measure) (M.bounds_of table.measure) c.args.desk.now c.valid.ensures (table_sums table) s of c.level.result c.depth.result c.args.first c.args.second c.args.marks.now.rows
    (at ∙ sym c.level.ensures.value) (under ∙ sym c.depth.ensures.value) marked c.requires.runs c.in-Ok.certificate c.in_ok-text-in-Ok.text.items (record { scope = c.depth.ensures.within; body = c.in-Ok.ensures.certificate }) c.in-Ok.ensures.answer c.in_ok-text-in-Ok.ensures

pub returns-in_ok-text-in-Err-Close : goal.returns-in_ok-text-in-Err-Close
returns-in_ok-text-in-Err-Close g c = λ s at under marked of.
    let table = c.args.table.now in
    let M = g.M.Measure in
    close_is (M.measured table.measure) (M.cell_of table.measure) (M.bounds_of table.measure) c.args.desk.now c.valid.ensures (table_sums table) s of c.level.result c.args.first c.args.second c.args.marks.now.rows (at ∙ sym c.level.ensures.value) marked c.requires.runs
    c.in-Err-Close.totals c.run_name.result.now c.run_name-in-Err-Close.result.now c.in_ok-text-in-Err-Close.text.items (rw c.in-Err-Close.field-0-is at c.in-Err-Close.ensures.answer)
    c.run_name.ensures c.run_name-in-Err-Close.ensures (rw c.in-Err-Close.field-0-is at c.in_ok-text-in-Err-Close.ensures)
