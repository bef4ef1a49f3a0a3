use Rattle.std.proofs.Common.{[], ◌∷◌, refl, sym}
use Rattle.desk_words.specs.declared.command.Command.TheVariants as commands
use Rattle.desk_outside.specs.Seen.{shelf}
use Rattle.desk_files.specs.declared.stop.Stop.TheVariants as kept
use Rattle.desk_top.specs.declared.outcome.Outcome.TheVariants as made
use Rattle.desk_top.specs.declared.status.Status.TheVariants.{Done}
use Rattle.desk_top.specs.Answer.{OfTiers}
use Rattle.desk_top.specs.Meaning.{meaning_of, PrintsTiers}
use Rattle.desk_top.specs.Report.{subject_of}
use Rattle.desk_top.specs.Works.{Works}
use Rattle.desk_files.proofs.InTurn.{files_handed_on, memory_after}
use Rattle.desk_top.proofs.Reporting.{handed_on, desk_works, desk_makes, desk_counts, desk_memory, tabled_subject, tabled_marks, tabled_stands}
use Rattle.desk_top.proofs.work.tiers_outcome.Goals as goal

pub tiers_report-requires-clause-marks : goal.tiers_report-requires-clause-marks
tiers_report-requires-clause-marks g c = tabled_marks _ _ _ c.args.job.now _ c.in_ok-on.on c.in_ok-on.ensures.on

pub tiers_report-requires-clause-table : goal.tiers_report-requires-clause-table
tiers_report-requires-clause-table g c = tabled_stands _ _ _ c.args.job.now _ c.in_ok-on.on c.in_ok-on.ensures.on

pub returns-in_err-text-clause-works : goal.returns-in_err-text-clause-works
returns-in_err-text-clause-works g c =
    let job = c.args.job.now in
    let on = c.in_ok-on.on in
    let is = c.in_ok-on.ensures.on in
    let files = shelf (g.F.Shelf.state c.args.files.now) (g.F.Shelf.state c.tabled.new.files) in
    handed_on (Works (meaning_of (commands.Tiers job)) files c.args.steps.now c.tabled.new.steps) c.from_residual-in_err-text.result kept.Memory c.from_residual-in_err-text.ensures.1
    (desk_memory job 1 (Done ∷ []) PrintsTiers is.of_files.rows on.desk is.of_files.ranked files is.of_files.read _ _ c.in_ok-on.ensures.steps kept.Memory refl)

pub returns-clause-works : goal.returns-clause-works
returns-clause-works g c =
    let job = c.args.job.now in
    let on = c.in_ok-on.on in
    let is = c.in_ok-on.ensures.on in
    let text = c.in_ok-text.text in
    let files = shelf (g.F.Shelf.state c.args.files.now) (g.F.Shelf.state c.tabled.new.files) in
    let tiers = c.in_ok-text.ensures (subject_of job on.desk) (sym c.new-grading.ensures.level) (sym c.new-grading.ensures.depth) (sym is.of_files.marked) (tabled_subject _ _ _ job _ on is) in
    desk_works job 1 (Done ∷ []) PrintsTiers is.of_files.rows on.desk is.of_files.ranked files is.of_files.read _ _ c.in_ok-on.ensures.steps (made.Prints text Done)
    (desk_makes job 1 (Done ∷ []) PrintsTiers is.of_files.rows on.desk is.of_files.ranked (OfTiers (subject_of job on.desk)) text.items Done tt (text.items, tiers, refl), desk_counts job 1 (Done ∷ []) PrintsTiers is.of_files.rows on.desk is.of_files.ranked _ _ c.in_ok-on.ensures.steps)

pub returns-in_err-on-clause-reads : goal.returns-in_err-on-clause-reads
returns-in_err-on-clause-reads g c = files_handed_on _ _ c.from_residual.result c.in_err-on.field-0.0 c.from_residual.ensures.1 c.in_err-on.ensures.reads

pub returns-in_err-text-clause-reads : goal.returns-in_err-text-clause-reads
returns-in_err-text-clause-reads g c = memory_after _ _ c.from_residual-in_err-text.result c.from_residual-in_err-text.ensures.1 c.in_ok-on.ensures.reads
