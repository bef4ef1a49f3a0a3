use Rattle.desk_outside.specs.Seen.{shelf}
use Rattle.desk_top.specs.Meaning.{apply_meaning}
use Rattle.desk_top.specs.Works.{Works}
use Rattle.desk_files.proofs.InTurn.{files_handed_on, memory_after}
use Rattle.desk_top.proofs.OnSheets.{apply_works, apply_stopped}
use Rattle.desk_top.proofs.Reporting.{handed_on}
use Rattle.desk_top.proofs.sheets.apply_outcome.Goals as goal

pub returns-in_err-desk-clause-works : goal.returns-in_err-desk-clause-works
returns-in_err-desk-clause-works g c =
    let files = shelf (g.F.Shelf.state c.args.files.now) (g.F.Shelf.state c.load_placing.new.files) in
    λ cells. handed_on (Works (apply_meaning c.args.placing.now) files cells cells) c.from_residual.result _ c.from_residual.ensures.1 (apply_stopped c.args.placing.now files cells _ c.in_err-desk.ensures.makes)

pub returns-in_err-desk-clause-reads : goal.returns-in_err-desk-clause-reads
returns-in_err-desk-clause-reads g c = files_handed_on _ _ c.from_residual.result c.in_err-desk.field-0.0 c.from_residual.ensures.1 c.in_err-desk.ensures.reads

pub returns-in_err-text-clause-reads : goal.returns-in_err-text-clause-reads
returns-in_err-text-clause-reads g c = memory_after _ _ c.from_residual-in_err-text.result c.from_residual-in_err-text.ensures.1 c.in_ok-desk.ensures.reads

pub returns-clause-works : goal.returns-clause-works
returns-clause-works g c =
    let files = shelf (g.F.Shelf.state c.args.files.now) (g.F.Shelf.state c.load_placing.new.files) in
    λ cells. apply_works c.args.placing.now files cells (c.in_ok-desk.desk, c.in_ok-desk.sheet) c.in_ok-text.text c.in_ok-desk.ensures.makes c.valid.ensures c.in_ok-text.ensures
