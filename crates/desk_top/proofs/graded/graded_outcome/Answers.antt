use Rattle.std.proofs.Common.{refl, inl}
use Rattle.desk_outside.specs.Seen.{shelf}
use Rattle.desk_files.specs.declared.stop.Stop.TheVariants as kept
use Rattle.desk_files.proofs.InTurn.{files_handed_on, memory_after}
use Rattle.desk_top.specs.Meaning.{graded_meaning}
use Rattle.desk_top.specs.Report.{graded_sources}
use Rattle.desk_top.specs.Works.{Works}
use Rattle.desk_top.proofs.ByGrades.{graded_memory, graded_works}
use Rattle.desk_top.proofs.Reporting.{handed_on, desk_stops}
use Rattle.desk_top.proofs.graded.graded_outcome.Goals as goal

pub graded_report-requires-clause-measure : goal.graded_report-requires-clause-measure
graded_report-requires-clause-measure g c = c.requires.on_desk.measure

pub returns-in_err-desk-clause-works : goal.returns-in_err-desk-clause-works
returns-in_err-desk-clause-works g c =
    let job = c.args.job.now in
    let files = shelf (g.F.Shelf.state c.args.files.now) (g.F.Shelf.state c.load_desk.new.files) in
    let stop = c.in_err-desk.field-0.0 in
    handed_on (Works (graded_meaning job c.args.greatest) files c.args.steps.now c.args.steps.now) c.from_residual.result stop c.from_residual.ensures.1
    (desk_stops (graded_sources job c.args.greatest) files stop c.in_err-desk.ensures.makes, inl refl)

pub returns-in_err-text-clause-works : goal.returns-in_err-text-clause-works
returns-in_err-text-clause-works g c =
    let job = c.args.job.now in
    let made = c.in_ok-desk.ensures.makes in
    let files = shelf (g.F.Shelf.state c.args.files.now) (g.F.Shelf.state c.load_desk.new.files) in
    handed_on (Works (graded_meaning job c.args.greatest) files c.args.steps.now c.graded_report.new.steps) c.from_residual-in_err-text.result kept.Memory c.from_residual-in_err-text.ensures.1
    (graded_memory job c.args.greatest made.0 c.in_ok-desk.desk made.2 files made.1 _ _ c.graded_report.ensures.steps)

pub returns-clause-works : goal.returns-clause-works
returns-clause-works g c =
    let job = c.args.job.now in
    let made = c.in_ok-desk.ensures.makes in
    let files = shelf (g.F.Shelf.state c.args.files.now) (g.F.Shelf.state c.load_desk.new.files) in
    graded_works job c.args.greatest made.0 c.in_ok-desk.desk made.2 files made.1 _ _ c.graded_report.ensures.steps c.requires c.in_ok-text.text c.in_ok-text.ensures.text

pub returns-in_err-desk-clause-reads : goal.returns-in_err-desk-clause-reads
returns-in_err-desk-clause-reads g c = files_handed_on _ _ c.from_residual.result c.in_err-desk.field-0.0 c.from_residual.ensures.1 c.in_err-desk.ensures.reads

pub returns-in_err-text-clause-reads : goal.returns-in_err-text-clause-reads
returns-in_err-text-clause-reads g c = memory_after _ _ c.from_residual-in_err-text.result c.from_residual-in_err-text.ensures.1 c.in_ok-desk.ensures.reads
