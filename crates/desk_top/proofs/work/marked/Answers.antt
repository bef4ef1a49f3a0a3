use Rattle.std.specs.Prelude.{IfErr}
use Rattle.desk_outside.specs.Seen.{shelf}
use Rattle.desk_top.specs.Loading.{desk_loading}
use Rattle.desk_top.specs.Report.{sources_of}
use Rattle.desk_top.specs.Works.{StopsLoading}
use Rattle.desk_files.proofs.InTurn.{files_handed_on, memory_after}
use Rattle.desk_top.proofs.Reporting.{desk_stops, handed_on}
use Rattle.desk_top.proofs.work.marked.Goals as goal

pub returns-in_err-desk-clause-stops : goal.returns-in_err-desk-clause-stops
returns-in_err-desk-clause-stops g c =
    let files = shelf (g.F.Shelf.state c.args.files.now) (g.F.Shelf.state c.load_desk.new.files) in
    handed_on (λ result. IfErr result (StopsLoading (desk_loading c.args.job.now) files)) c.from_residual.result _ c.from_residual.ensures.1 (desk_stops (sources_of c.args.job.now) files _ c.in_err-desk.ensures.makes)

pub returns-in_err-desk-clause-reads : goal.returns-in_err-desk-clause-reads
returns-in_err-desk-clause-reads g c = files_handed_on _ _ c.from_residual.result c.in_err-desk.field-0.0 c.from_residual.ensures.1 c.in_err-desk.ensures.reads

pub returns-in_err-marks-clause-reads : goal.returns-in_err-marks-clause-reads
returns-in_err-marks-clause-reads g c = memory_after _ _ c.from_residual-in_err-marks.result c.from_residual-in_err-marks.ensures.1 c.in_ok-desk.ensures.reads
