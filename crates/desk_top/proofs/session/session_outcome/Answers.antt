use Rattle.std.proofs.Common.{◌≡◌, sym, subst}
use Rattle.std.specs.Prelude.{Ok}
use Rattle.desk_outside.specs.Seen.{shelf}
use Rattle.desk_report.specs.Grading.{Grading}
use Rattle.desk_top.specs.declared.outcome.Outcome.TheVariants as made
use Rattle.desk_top.specs.Report.{grading_of}
use Rattle.desk_top.specs.Meaning.{session_meaning}
use Rattle.desk_top.specs.Works.{Works}
use Rattle.desk_files.proofs.InTurn.{files_handed_on}
use Rattle.desk_top.proofs.Conversing.{session_holds, session_stopped}
use Rattle.desk_top.proofs.Reporting.{handed_on}
use Rattle.desk_top.proofs.session.session_outcome.Goals as goal

pub returns-in_err-desk-clause-works : goal.returns-in_err-desk-clause-works
returns-in_err-desk-clause-works g c =
    let files = shelf (g.F.Shelf.state c.args.files.now) (g.F.Shelf.state c.load_desk.new.files) in
    λ cells. handed_on (Works (session_meaning c.args.job.now) files cells cells) c.from_residual.result _ c.from_residual.ensures.1 (session_stopped c.args.job.now files cells _ c.in_err-desk.ensures.makes)

pub returns-clause-works : goal.returns-clause-works
returns-clause-works g c =
    let job = c.args.job.now in
    let files = shelf (g.F.Shelf.state c.args.files.now) (g.F.Shelf.state c.load_desk.new.files) in
    let same : c.new.result ≡ grading_of job = λ i. record { level = c.new.ensures.level i; depth = c.new.ensures.depth i } in
    λ cells. subst (λ (grading : Grading). Works (session_meaning job) files cells cells (Ok (made.Holds c.in_ok-desk.desk job.measure grading))) (sym same)
    (session_holds job files cells c.in_ok-desk.ensures.makes.0 c.in_ok-desk.desk c.requires c.in_ok-desk.ensures.makes.1 c.in_ok-desk.ensures.makes.2)

pub returns-in_err-desk-clause-reads : goal.returns-in_err-desk-clause-reads
returns-in_err-desk-clause-reads g c = files_handed_on _ _ c.from_residual.result c.in_err-desk.field-0.0 c.from_residual.ensures.1 c.in_err-desk.ensures.reads
