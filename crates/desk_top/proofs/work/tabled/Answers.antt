use Rattle.std.proofs.Common.{subst}
use Rattle.desk_report.specs.Reports.{IsTableOn, subject}
use Rattle.desk_files.proofs.InTurn.{files_handed_on, memory_after}
use Rattle.desk_top.proofs.Reporting.{desk_marks}
use Rattle.desk_top.proofs.work.tabled.Goals as goal

pub table_on-requires-clause-marks : goal.table_on-requires-clause-marks
table_on-requires-clause-marks g c = desk_marks c.args.job.now _ c.in_ok-desk.field-0.desk c.in_ok-desk.field-0.marks.rows c.in_ok-desk.ensures.on

pub returns-in_err-desk-clause-reads : goal.returns-in_err-desk-clause-reads
returns-in_err-desk-clause-reads g c = files_handed_on _ _ c.from_residual.result c.in_err-desk.field-0.0 c.from_residual.ensures.1 c.in_err-desk.ensures.reads

pub returns-in_err-table-clause-reads : goal.returns-in_err-table-clause-reads
returns-in_err-table-clause-reads g c = memory_after _ _ c.from_residual-in_err-table.result c.from_residual-in_err-table.ensures.1 c.in_ok-desk.ensures.reads

pub returns-clause-on : goal.returns-clause-on
returns-clause-on g c =
    let job = c.args.job.now in
    let is = c.in_ok-desk.ensures.on in
    let kept = c.in_ok-table.table in
    let M = g.P.Made.Measure in
    record {
      of_files = is;
      table = subst (λ marks. IsTableOn (M.measured kept.measure) (M.cell_of kept.measure) (M.bounds_of kept.measure) (subject job.measure job.level job.depth c.in_ok-desk.field-0.desk marks) kept) is.marked c.in_ok-table.ensures.table;
    }
