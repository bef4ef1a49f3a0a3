use Rattle.std.proofs.Common.{[], ◌∷◌, inl, refl, subst, sym}
use Rattle.desk_words.specs.declared.command.Command.TheVariants as commands
use Rattle.desk_outside.specs.Seen.{shelf}
use Rattle.desk_files.specs.declared.stop.Stop.TheVariants as kept
use Rattle.desk_report.specs.Reports.{IsSumsOn, subject}
use Rattle.desk_top.specs.declared.outcome.Outcome.TheVariants as made
use Rattle.desk_top.specs.declared.status.Status.TheVariants.{Done}
use Rattle.desk_top.specs.Answer.{OfRuns}
use Rattle.desk_top.specs.Meaning.{meaning_of, PrintsTable}
use Rattle.desk_top.specs.Report.{subject_of}
use Rattle.desk_top.specs.Works.{Works}
use Rattle.desk_files.proofs.InTurn.{files_handed_on, memory_after}
use Rattle.desk_top.proofs.Reporting.{handed_on, desk_works, desk_makes, desk_counts, desk_marks, desk_memory, desk_subject}
use Rattle.desk_top.proofs.work.table_outcome.Goals as goal

pub sums_on-requires-clause-marks : goal.sums_on-requires-clause-marks
sums_on-requires-clause-marks g c = desk_marks c.args.job.now _ c.in_ok-on.on.desk c.in_ok-on.on.marks.rows c.in_ok-on.ensures.on

pub returns-in_err-sums-clause-works : goal.returns-in_err-sums-clause-works
returns-in_err-sums-clause-works g c =
    let job = c.args.job.now in
    let files = shelf (g.F.Shelf.state c.args.files.now) (g.F.Shelf.state c.marked.new.files) in
    handed_on (Works (meaning_of (commands.Table job)) files c.args.steps.now c.sums_on.new.steps) c.from_residual-in_err-sums.result kept.Memory c.from_residual-in_err-sums.ensures.1 (tt, inl c.in_err-sums.ensures.no_steps)

pub returns-in_err-text-clause-works : goal.returns-in_err-text-clause-works
returns-in_err-text-clause-works g c =
    let job = c.args.job.now in
    let on = c.in_ok-on.on in
    let is = c.in_ok-on.ensures.on in
    let files = shelf (g.F.Shelf.state c.args.files.now) (g.F.Shelf.state c.marked.new.files) in
    handed_on (Works (meaning_of (commands.Table job)) files c.args.steps.now c.sums_on.new.steps) c.from_residual-in_err-text.result kept.Memory c.from_residual-in_err-text.ensures.1
    (desk_memory job 1 (Done ∷ []) PrintsTable is.rows on.desk is.ranked files is.read _ _ c.in_ok-sums.ensures.steps kept.Memory refl)

pub returns-clause-works : goal.returns-clause-works
returns-clause-works g c =
    let job = c.args.job.now in
    let on = c.in_ok-on.on in
    let is = c.in_ok-on.ensures.on in
    let text = c.in_ok-text.text in
    let sums = c.in_ok-sums.sums in
    let M = g.P.Made.Measure in
    let files = shelf (g.F.Shelf.state c.args.files.now) (g.F.Shelf.state c.marked.new.files) in
    let of = subst (λ marks. IsSumsOn (M.measured sums.measure) (M.cell_of sums.measure) (M.bounds_of sums.measure) (subject job.measure job.level job.depth on.desk marks) sums) is.marked c.in_ok-sums.ensures.sums in
    let table = c.in_ok-text.ensures (subject_of job on.desk) (sym c.new-grading.ensures.level) (sym c.new-grading.ensures.depth) (desk_subject job _ on.desk on.marks.rows is _ _ _ sums of) in
    desk_works job 1 (Done ∷ []) PrintsTable is.rows on.desk is.ranked files is.read _ _ c.in_ok-sums.ensures.steps (made.Prints text Done)
    (desk_makes job 1 (Done ∷ []) PrintsTable is.rows on.desk is.ranked (OfRuns (subject_of job on.desk)) text.items Done tt (text.items, table, refl), desk_counts job 1 (Done ∷ []) PrintsTable is.rows on.desk is.ranked _ _ c.in_ok-sums.ensures.steps)

pub returns-in_err-on-clause-reads : goal.returns-in_err-on-clause-reads
returns-in_err-on-clause-reads g c = files_handed_on _ _ c.from_residual.result c.in_err-on.field-0.0 c.from_residual.ensures.1 c.in_err-on.ensures.reads

pub returns-in_err-sums-clause-reads : goal.returns-in_err-sums-clause-reads
returns-in_err-sums-clause-reads g c = memory_after _ _ c.from_residual-in_err-sums.result c.from_residual-in_err-sums.ensures.1 c.in_ok-on.ensures.reads

pub returns-in_err-text-clause-reads : goal.returns-in_err-text-clause-reads
returns-in_err-text-clause-reads g c = memory_after _ _ c.from_residual-in_err-text.result c.from_residual-in_err-text.ensures.1 c.in_ok-on.ensures.reads
